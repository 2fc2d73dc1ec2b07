-- Counts read one by one.
use Rattle.std.specs.Prelude.{ℕ, zero, suc, ◌≡◌, ◌+◌, ◌<◌, ◌≤◌, List, [], ◌∷◌, ◌++◌, Option, Some, None, length, drop, get_or}
use Rattle.std.proofs.Common.{refl, sym, ap, arith, ◌∙◌}
use Rattle.std.specs.Borrow.{Bor}
use Rattle.std.proofs.lemmas.List.{append-nil, append_assoc}
use Rattle.std.proofs.lemmas.List.Elements.{All-head, All-tail}
use Rattle.row_state.specs.declared.kind.Kind.{Kind}
use Rattle.row_state.specs.declared.kind.Kinds.{Kinds}
use Rattle.row_state.specs.Start.{AreSomeKinds}
use Rattle.row_state.proofs.Valid.{gates_few}
use Rattle.log_lines.specs.Words.{number_below, parts_at, parts_left}
use Rattle.log_lines.proofs.Parts.{some_part}
use Rattle.bound_log.specs.Line.{◌>>=◌, FewOfEach, counts_each}
use Rattle.bound_log.proofs.Again.{few_each}

abbrev pub with_front : {X : Type 0} → List X → Option (List X) → Option (List X)
with_front front None = None
with_front front (Some rest) = Some (front ++ rest)

-- ---- how many fingers are of a kind

pub few_of_each : (k : Kinds) → AreSomeKinds k → FewOfEach k.p × FewOfEach k.n
few_of_each k some = (few_each k.p (λ gate. (gates_few k gate some).0), few_each k.n (λ gate. (gates_few k gate some).1))

pub few_here : (kinds : List Kind) (at : ℕ) (kind : Kind) → FewOfEach kinds → at < length kinds → (get_or kinds at kind).count + 1 ≤ 1000
few_here [] at kind few l = absurd (omega (arith, l))
few_here (k ∷ ks) zero kind few l = let here : k.count ≤ 64 = All-head (λ (x : Kind). x.count ≤ 64) k ks few in omega (arith, here)
few_here (k ∷ ks) (suc at) kind few l = few_here ks at kind (All-tail (λ (x : Kind). x.count ≤ 64) k ks few) (omega (arith, l))

-- ---- with the counts so far in front

none_left : (front : List ℕ) (kinds : List Kind) (at : ℕ) → at < length kinds → with_front front (counts_each (drop at kinds) []) ≡ None
none_left front [] at l = absurd (omega (arith, l))
none_left front (k ∷ ks) zero l = refl
none_left front (k ∷ ks) (suc at) l = none_left front ks at (omega (arith, l))

all_read : (front : List ℕ) (kinds : List Kind) (at : ℕ) → length kinds ≤ at → with_front front (counts_each (drop at kinds) []) ≡ Some front
all_read front [] zero l = ap Some (append-nil front)
all_read front [] (suc at) l = ap Some (append-nil front)
all_read front (k ∷ ks) zero l = absurd (omega (arith, l))
all_read front (k ∷ ks) (suc at) l = all_read front ks at (omega (arith, l))

one_more : (front : List ℕ) (kinds : List Kind) (at : ℕ) (parts : List (List ℕ)) → length kinds ≤ at → 0 < length parts → with_front front (counts_each (drop at kinds) parts) ≡ None
one_more front kinds at [] l some = absurd (omega (arith, some))
one_more front [] zero (part ∷ parts) l some = refl
one_more front [] (suc at) (part ∷ parts) l some = refl
one_more front (k ∷ ks) zero parts l some = absurd (omega (arith, l))
one_more front (k ∷ ks) (suc at) parts l some = one_more front ks at parts (omega (arith, l)) some

first_wrong : (front : List ℕ) (kinds : List Kind) (at : ℕ) (kind : Kind) (part : List ℕ) (parts : List (List ℕ)) → at < length kinds → number_below ((get_or kinds at kind).count + 1) part ≡ None → with_front front (counts_each (drop at kinds) (part ∷ parts)) ≡ None
first_wrong front [] at kind part parts l e = absurd (omega (arith, l))
first_wrong front (k ∷ ks) zero kind part parts l e = rw e refl
first_wrong front (k ∷ ks) (suc at) kind part parts l e = first_wrong front ks at kind part parts (omega (arith, l)) e

first_read : (front : List ℕ) (kinds : List Kind) (at : ℕ) (kind : Kind) (part : List ℕ) (parts : List (List ℕ)) (count : ℕ) → at < length kinds → number_below ((get_or kinds at kind).count + 1) part ≡ Some count → with_front front (counts_each (drop at kinds) (part ∷ parts)) ≡ with_front (front ++ count ∷ []) (counts_each (drop (suc at) kinds) parts)
first_read front [] at kind part parts count l e = absurd (omega (arith, l))
first_read front (k ∷ ks) zero kind part parts count l e = rw e (joined (counts_each ks parts))
  where
    joined : (o : Option (List ℕ)) → with_front front (o >>= λ counts. Some (count ∷ counts)) ≡ with_front (front ++ count ∷ []) o
    joined None = refl
    joined (Some counts) = ap Some (sym (append_assoc front (count ∷ []) counts))
first_read front (k ∷ ks) (suc at) kind part parts count l e = first_read front ks at kind part parts count (omega (arith, l)) e

-- ---- the same of the rest of a text

pub no_part : (front : List ℕ) (kinds : List Kind) (at : ℕ) (rest : Option (Bor (List ℕ))) (all : Option (List ℕ)) → with_front front (counts_each (drop at kinds) (parts_left 44 rest)) ≡ all → rest ≡ None → at < length kinds → all ≡ None
no_part front kinds at rest all so_far none l = sym so_far ∙ (ap (λ (o : Option (Bor (List ℕ))). with_front front (counts_each (drop at kinds) (parts_left 44 o))) none ∙ none_left front kinds at l)

pub bad_count : (front : List ℕ) (kinds : List Kind) (at : ℕ) (kind : Kind) (rest : Option (Bor (List ℕ))) (text : Bor (List ℕ)) (part : List ℕ) (after : Option (Bor (List ℕ))) (all : Option (List ℕ)) → with_front front (counts_each (drop at kinds) (parts_left 44 rest)) ≡ all → rest ≡ Some text → parts_at 44 text.now ≡ part ∷ parts_left 44 after → at < length kinds → None ≡ number_below ((get_or kinds at kind).count + 1) part → all ≡ None
bad_count front kinds at kind rest text part after all so_far some first l e =
    sym so_far
    ∙ (ap (λ (o : Option (Bor (List ℕ))). with_front front (counts_each (drop at kinds) (parts_left 44 o))) some
    ∙ (ap (λ (ps : List (List ℕ)). with_front front (counts_each (drop at kinds) ps)) first ∙ first_wrong front kinds at kind part (parts_left 44 after) l (sym e)))

pub next_count : (front : List ℕ) (kinds : List Kind) (at : ℕ) (kind : Kind) (rest : Option (Bor (List ℕ))) (text : Bor (List ℕ)) (part : List ℕ) (after : Option (Bor (List ℕ))) (count : ℕ) (all : Option (List ℕ)) → with_front front (counts_each (drop at kinds) (parts_left 44 rest)) ≡ all → rest ≡ Some text → parts_at 44 text.now ≡ part ∷ parts_left 44 after → at < length kinds → Some count ≡ number_below ((get_or kinds at kind).count + 1) part → with_front (front ++ count ∷ []) (counts_each (drop (at + 1) kinds) (parts_left 44 after)) ≡ all
next_count front kinds at kind rest text part after count all so_far some first l e =
    let next : at + 1 ≡ suc at = omega arith in
    rw next
    (sym (first_read front kinds at kind part (parts_left 44 after) count l (sym e))
    ∙ (ap (λ (ps : List (List ℕ)). with_front front (counts_each (drop at kinds) ps)) (sym first)
    ∙ (ap (λ (o : Option (Bor (List ℕ))). with_front front (counts_each (drop at kinds) (parts_left 44 o))) (sym some) ∙ so_far)))

pub too_many : (front : List ℕ) (kinds : List Kind) (at : ℕ) (rest : Option (Bor (List ℕ))) (text : Bor (List ℕ)) (all : Option (List ℕ)) → with_front front (counts_each (drop at kinds) (parts_left 44 rest)) ≡ all → rest ≡ Some text → length kinds ≤ at → all ≡ None
too_many front kinds at rest text all so_far some l = sym so_far ∙ (ap (λ (o : Option (Bor (List ℕ))). with_front front (counts_each (drop at kinds) (parts_left 44 o))) some ∙ one_more front kinds at (parts_at 44 text.now) l (some_part 44 text.now))

pub all_counts : (front : List ℕ) (kinds : List Kind) (at : ℕ) (rest : Option (Bor (List ℕ))) (all : Option (List ℕ)) → with_front front (counts_each (drop at kinds) (parts_left 44 rest)) ≡ all → rest ≡ None → length kinds ≤ at → all ≡ Some front
all_counts front kinds at rest all so_far none l = sym so_far ∙ (ap (λ (o : Option (Bor (List ℕ))). with_front front (counts_each (drop at kinds) (parts_left 44 o))) none ∙ all_read front kinds at l)
