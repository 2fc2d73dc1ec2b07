-- Transistors as often as their lines stand for them.
use Rattle.std.proofs.Common.{ℕ, zero, suc, ◌≡◌, ◌+◌, ◌<◌, ◌≤◌, ◌∷◌, [], ◌++◌, List, length, get_or, map, take, replicate, All, Any, refl, sym, subst, ap, ◌∙◌, arith}
use Rattle.std.proofs.lemmas.Grind.{flat_map-append}
use Rattle.std.proofs.lemmas.List.{append-nil, get_or-append-add, get_or-replicate, length-append, length-replicate, map-append}
use Rattle.std.proofs.lemmas.List.Concat.{flat_map-cons}
use Rattle.std.proofs.lemmas.List.Elements.{All-append, All-head, All-replicate, All-tail}
use Rattle.cell_num.proofs.Pairs.{any_append_left}
use Rattle.spice_net.proofs.Last.{next_taken}
use Rattle.spice_net.specs.Nets.{device_of, with_copies, devices_of}
use Rattle.spice_net.specs.Transistors.{Transistor}
use Rattle.spice_net.specs.declared.subckt.Device.{Device}

-- ---- one line after the other

copies_more : (ts : List Transistor) (i : ℕ) (t : Transistor) → i < length ts → t ≡ get_or ts i t → with_copies (take (i + 1) ts) ≡ with_copies (take i ts) ++ replicate t.copies t
copies_more ts i t lt is = ap with_copies (next_taken ts i t lt is) ∙ (flat_map-append (λ (t : Transistor). replicate t.copies t) (take i ts) (t ∷ []) ∙ ap (λ (more : List Transistor). with_copies (take i ts) ++ more) (append-nil (replicate t.copies t)))

map_copies : (f : Transistor → Device) (n : ℕ) (t : Transistor) → map f (replicate n t) ≡ replicate n (f t)
map_copies f zero t = refl
map_copies f (suc n) t = ap (λ (ds : List Device). f t ∷ ds) (map_copies f n t)

pub one_more_device : (nets : List (List ℕ)) (ts : List Transistor) (i : ℕ) (t : Transistor) → i < length ts → t ≡ get_or ts i t → devices_of nets (take i ts) ++ replicate t.copies (device_of nets t) ≡ devices_of nets (take (i + 1) ts)
one_more_device nets ts i t lt is =
    sym (ap (map (device_of nets)) (copies_more ts i t lt is) ∙ (map-append (device_of nets) (with_copies (take i ts)) (replicate t.copies t) ∙ ap (λ (ds : List Device). devices_of nets (take i ts) ++ ds) (map_copies (device_of nets) t.copies t)))

pub one_more_counted : (ts : List Transistor) (i : ℕ) (t : Transistor) → i < length ts → t ≡ get_or ts i t → length (with_copies (take i ts)) + t.copies ≡ length (with_copies (take (i + 1) ts))
one_more_counted ts i t lt is = omega (arith, ap length (copies_more ts i t lt is), length-append (with_copies (take i ts)) (replicate t.copies t), length-replicate t.copies t)

-- ---- all of them

first_copies : (t : Transistor) (ts : List Transistor) → with_copies (t ∷ ts) ≡ replicate t.copies t ++ with_copies ts
first_copies t ts = flat_map-cons (λ (t : Transistor). replicate t.copies t) t ts

pub all_copies : (P : Transistor → Type 0) (ts : List Transistor) → All P ts → All P (with_copies ts)
all_copies P [] all = all
all_copies P (t ∷ ts) all =
    subst (λ (us : List Transistor). All P us) (sym (first_copies t ts)) (All-append P (replicate t.copies t) (with_copies ts) (All-replicate P t.copies t (All-head P t ts all)) (all_copies P ts (All-tail P t ts all)))

-- each line stands for some transistor, so there are no fewer transistors than lines
pub copies_no_fewer : (ts : List Transistor) → All (λ (t : Transistor). 1 ≤ t.copies) ts → length ts ≤ length (with_copies ts)
copies_no_fewer [] some = omega arith
copies_no_fewer (t ∷ ts) some =
    omega (arith, All-head (λ (t : Transistor). 1 ≤ t.copies) t ts some, copies_no_fewer ts (All-tail (λ (t : Transistor). 1 ≤ t.copies) t ts some), ap length (first_copies t ts), length-append (replicate t.copies t) (with_copies ts), length-replicate t.copies t)

any_replicate : (Q : Device → Type 0) (n : ℕ) (d : Device) → 1 ≤ n → Q d → Any Q (replicate n d)
any_replicate Q n d some q = (0, d, omega (arith, some, length-replicate n d), get_or-replicate n 0 d d (omega (arith, some)), q)

any_behind : (Q : Device → Type 0) (xs ys : List Device) → Any Q ys → Any Q (xs ++ ys)
any_behind Q xs ys (k, d, lt, is, q) = (length xs + k, d, omega (arith, lt, length-append xs ys), get_or-append-add xs ys k d ∙ is, q)

-- where each line stands for some transistor, a fact of one of them is one of a copy
pub any_copies : (Q : Device → Type 0) (f : Transistor → Device) (ts : List Transistor) → All (λ (t : Transistor). 1 ≤ t.copies) ts → Any Q (map f ts) → Any Q (map f (with_copies ts))
any_copies Q f [] some any = any
any_copies Q f (t ∷ ts) some any = subst (λ (ds : List Device). Any Q ds) (sym shape) (by_place (any_copies Q f ts (All-tail (λ (t : Transistor). 1 ≤ t.copies) t ts some)) any)
  where
    shape : map f (with_copies (t ∷ ts)) ≡ replicate t.copies (f t) ++ map f (with_copies ts)
    shape = ap (map f) (first_copies t ts) ∙ (map-append f (replicate t.copies t) (with_copies ts) ∙ ap (λ (ds : List Device). ds ++ map f (with_copies ts)) (map_copies f t.copies t))

    by_place : (Any Q (map f ts) → Any Q (map f (with_copies ts))) → Any Q (f t ∷ map f ts) → Any Q (replicate t.copies (f t) ++ map f (with_copies ts))
    by_place behind (zero, d, lt, is, q) = any_append_left Q (replicate t.copies (f t)) (map f (with_copies ts)) (any_replicate Q t.copies (f t) (All-head (λ (t : Transistor). 1 ≤ t.copies) t ts some) (subst Q (sym is) q))
    by_place behind (suc k, d, lt, is, q) = any_behind Q (replicate t.copies (f t)) (map f (with_copies ts)) (behind (k, d, omega (arith, lt), is, q))
