-- The list of broken rules, rule by rule.
use Rattle.std.proofs.Common.{◌≡◌, ◌↔◌, ℕ, zero, suc, ◌+◌, ◌<◌, ℤ, List, [], ◌∷◌, ◌++◌, length, take, Option, Some, None, option_to_list, slice_get, get_or, arith, inl, inr, ◌⊎◌, refl, sym, subst, ap, ◌∙◌}
use Rattle.std.specs.List.{All, AllPairs, Contains}
use Rattle.std.proofs.lemmas.Int.{ints}
use Rattle.std.proofs.lemmas.List.Elements.{Contains-append_left, Contains-append_cases, Contains-push}
use Rattle.std.proofs.lemmas.Option.{slice_get_within}
use Rattle.cell_num.proofs.In.{In, contains_in}
use Rattle.cell_num.proofs.Lists.{contains_none, contains_one, all_from_contains, all_one}
use Rattle.cell_num.proofs.Pairs.{pairs_none, pairs_one, pairs_append}
use Rattle.box_geom.specs.Rectangle.{Rectangle, Covers}
use Rattle.box_geom.specs.Regions.{IsEmpty, IsFirst}
use Rattle.box_geom.specs.declared.shape.Shape.{Shape}
use Rattle.scmos_rules.specs.Cells.{AreCells}
use Rattle.scmos_rules.specs.Rules.{Fails}
use Rattle.scmos_rules.specs.Violations.{StandsBefore, AreBroken, IsVerdict, Lists}
use Rattle.std.proofs.lemmas.List.{take_more, append-nil}
use Rattle.scmos_rules.specs.declared.number.RuleNo.{RuleNo}
use Rattle.scmos_rules.specs.declared.number.RuleNo.TheVariants.{N1_1}
use Rattle.scmos_rules.specs.declared.rules.Deck.{Deck}
use Rattle.scmos_rules.specs.declared.violation.Violation.{Violation}

first_like : (P Q : ℤ → ℤ → Type 0) (x y : ℤ) → ((s t : ℤ) → P s t ↔ Q s t) → IsFirst P x y → IsFirst Q x y
first_like P Q x y e f = record { covered = (e x y).0 f.covered; first = λ s t q. f.first s t ((e s t).1 q) }

record SamePlace (x y s t : ℤ) : Type 0 where
  across : x ≡ s
  upward : y ≡ t

one_first : (P : ℤ → ℤ → Type 0) (x y s t : ℤ) → IsFirst P x y → IsFirst P s t → SamePlace x y s t
one_first P x y s t f g =
    let a = f.first s t g.covered in let b = g.first x y f.covered in
    let r = a.row in let q = b.row in
    let u = a.column q in let v = b.column r in
    record { across = omega (arith, ints); upward = omega (arith, ints) }

pub none_broken : (d : Deck) (s : List Shape) → AreBroken d s [] []
none_broken d s = record { listed = λ v. (λ c. absurd (contains_none v c), λ (c, f). absurd (contains_none v.rule c)); order = pairs_none (λ (v w : Violation). StandsBefore [] v.rule w.rule); each = λ rule c. absurd (contains_none rule c) }

get_left : (xs ys : List RuleNo) (i : ℕ) (x : RuleNo) → slice_get xs i ≡ Some x → slice_get (xs ++ ys) i ≡ Some x
get_left [] ys i x e = absurd (cc e)
get_left (z ∷ zs) ys zero x e = e
get_left (z ∷ zs) ys (suc i) x e = get_left zs ys i x e

-- an earlier place stays an earlier place
more_before : (rules : List RuleNo) (r a b : RuleNo) → StandsBefore rules a b → StandsBefore (rules ++ r ∷ []) a b
more_before rules r a b s = record { i = s.i; j = s.j; before = s.before; first = get_left rules (r ∷ []) s.i a s.first; second = get_left rules (r ∷ []) s.j b s.second }

record Seat (rules : List RuleNo) (r : RuleNo) : Type 0 where
  at : ℕ
  is : slice_get rules at ≡ Some r

seat : (rules : List RuleNo) (r : RuleNo) → In rules r → Seat rules r
seat [] r i = absurd i
seat (q ∷ qs) r (inl e) = record { at = 0; is = ap Some e }
seat (q ∷ qs) r (inr i) = let s = seat qs r i in record { at = suc s.at; is = s.is }

get_last : (xs : List RuleNo) (x : RuleNo) → slice_get (xs ++ x ∷ []) (length xs) ≡ Some x
get_last [] x = refl
get_last (z ∷ zs) x = get_last zs x

pairs_more : (rules : List RuleNo) (r : RuleNo) (vs : List Violation) → AllPairs (λ (v w : Violation). StandsBefore rules v.rule w.rule) vs → AllPairs (λ (v w : Violation). StandsBefore (rules ++ r ∷ []) v.rule w.rule) vs
pairs_more rules r vs p i j d lt within = more_before rules r _ _ (p i j d lt within)

kept : (d : Deck) (s : List Shape) (rules : List RuleNo) (r : RuleNo) (vs : List Violation) → AreBroken d s rules vs → IsEmpty (Fails d r s) → AreBroken d s (rules ++ r ∷ []) vs
kept d s rules r vs b none = record { listed = λ v. (λ c. let k = (b.listed v).0 c in (Contains-append_left rules (r ∷ []) v.rule k.0, k.1), λ (c, f). back v f (Contains-append_cases rules (r ∷ []) v.rule c)); order = pairs_more rules r vs b.order; each = λ rule c. more rule (Contains-append_cases rules (r ∷ []) rule c) }
  where
    more : (rule : RuleNo) → Contains rules rule ⊎ Contains (r ∷ []) rule → Lists vs rule ⊎ IsEmpty (Fails d rule s)
    more rule (inl c) = b.each rule c
    more rule (inr c) = inr (subst (λ z. IsEmpty (Fails d z s)) (contains_one r rule c) none)

    back : (v : Violation) → IsFirst (Fails d v.rule s) v.x v.y → Contains rules v.rule ⊎ Contains (r ∷ []) v.rule → Contains vs v
    back v f (inl c) = (b.listed v).1 (c, f)
    back v f (inr c) = let e : r ≡ v.rule = contains_one r v.rule c in absurd (none v.x v.y (subst (λ z. Fails d z s v.x v.y) (sym e) f.covered))

make : RuleNo → ℤ → ℤ → Violation
make r x y = record { rule = r; x = x; y = y }

made : (r q : RuleNo) (x y u v : ℤ) → r ≡ q → x ≡ u → y ≡ v → make r x y ≡ make q u v
made r q x y u v e f g = cc

same_violation : (a b : Violation) → a.rule ≡ b.rule → a.x ≡ b.x → a.y ≡ b.y → a ≡ b
unfolding make
same_violation a b e f g = made a.rule b.rule a.x a.y b.x b.y e f g

found : (d : Deck) (s : List Shape) (rules : List RuleNo) (r : RuleNo) (vs : List Violation) (new : Violation) → AreBroken d s rules vs → new.rule ≡ r → IsFirst (Fails d r s) new.x new.y → AreBroken d s (rules ++ r ∷ []) (vs ++ new ∷ [])
found d s rules r vs new b is first = record { listed = λ v. (λ c. there v (Contains-append_cases vs (new ∷ []) v c), λ (c, g). back v g (Contains-append_cases rules (r ∷ []) v.rule c)); order = pairs_append Before vs (new ∷ []) (pairs_more rules r vs b.order) (pairs_one Before new) (all_from_contains (λ v. All (Before v) (new ∷ [])) vs (λ v c. all_one (Before v) new (last v c))); each = λ rule c. more rule (Contains-append_cases rules (r ∷ []) rule c) }
  where
    kept_listed : (rule : RuleNo) → Lists vs rule ⊎ IsEmpty (Fails d rule s) → Lists (vs ++ new ∷ []) rule ⊎ IsEmpty (Fails d rule s)
    kept_listed rule (inl (v, c, e)) = inl (v, Contains-append_left vs (new ∷ []) v c, e)
    kept_listed rule (inr empty) = inr empty

    more : (rule : RuleNo) → Contains rules rule ⊎ Contains (r ∷ []) rule → Lists (vs ++ new ∷ []) rule ⊎ IsEmpty (Fails d rule s)
    more rule (inl c) = kept_listed rule (b.each rule c)
    more rule (inr c) = inl (new, Contains-push vs new, is ∙ contains_one r rule c)

    Before : Violation → Violation → Type 0
    Before v w = StandsBefore (rules ++ r ∷ []) v.rule w.rule

    there : (v : Violation) → Contains vs v ⊎ Contains (new ∷ []) v → Contains (rules ++ r ∷ []) v.rule × IsFirst (Fails d v.rule s) v.x v.y
    there v (inl c) = let k = (b.listed v).0 c in (Contains-append_left rules (r ∷ []) v.rule k.0, k.1)
    there v (inr c) = subst (λ (w : Violation). Contains (rules ++ r ∷ []) w.rule × IsFirst (Fails d w.rule s) w.x w.y) (contains_one new v c) (subst (Contains (rules ++ r ∷ [])) (sym is) (Contains-push rules r), subst (λ z. IsFirst (Fails d z s) new.x new.y) (sym is) first)

    back : (v : Violation) → IsFirst (Fails d v.rule s) v.x v.y → Contains rules v.rule ⊎ Contains (r ∷ []) v.rule → Contains (vs ++ new ∷ []) v
    back v g (inl c) = Contains-append_left vs (new ∷ []) v ((b.listed v).1 (c, g))
    back v g (inr c) =
        let e : r ≡ v.rule = contains_one r v.rule c in
        let p = one_first (Fails d r s) new.x new.y v.x v.y first (subst (λ z. IsFirst (Fails d z s) v.x v.y) (sym e) g) in
        subst (Contains (vs ++ new ∷ [])) (same_violation new v (is ∙ e) p.across p.upward) (Contains-push vs new)

    last : (v : Violation) → Contains vs v → Before v new
    last v c =
        let k = (b.listed v).0 c in
        let q = seat rules v.rule (contains_in rules v.rule k.0) in
        record { i = q.at; j = length rules; before = slice_get_within rules q.at v.rule q.is; first = get_left rules (r ∷ []) q.at v.rule q.is; second = subst (λ z. slice_get (rules ++ r ∷ []) (length rules) ≡ Some z) (sym is) (get_last rules r) }

-- the first cell of the region of failing cells
pub first_failing : (d : Deck) (s : List Shape) (r : RuleNo) (region : List Rectangle) (x y u v : ℤ) → AreCells (Fails d r s) region → IsFirst (Covers region) u v → x ≡ u → y ≡ v → IsFirst (Fails d r s) x y
first_failing d s r region x y u v cells f e g = subst (λ z. IsFirst (Fails d r s) z y) (sym e) (subst (IsFirst (Fails d r s) u) (sym g) (first_like (Covers region) (Fails d r s) u v cells.same f))

pub one_more_rule : (d : Deck) (s : List Shape) (all : List RuleNo) (i : ℕ) (r : RuleNo) (vs new : List Violation) (o : Option Violation) → i < length all → r ≡ get_or all i N1_1 → AreBroken d s (take i all) vs → IsVerdict d s r o → new ≡ vs ++ option_to_list o → AreBroken d s (take (i + 1) all) new
one_more_rule d s all i r vs new o lt is b verdict e =
    subst (λ z. AreBroken d s z new) (sym (take_more all i N1_1 lt))
    (subst (λ z. AreBroken d s (take i all ++ z ∷ []) new) is
    (subst (AreBroken d s (take i all ++ r ∷ [])) (sym e) (by o b verdict)))
  where
    by : (o : Option Violation) → AreBroken d s (take i all) vs → IsVerdict d s r o → AreBroken d s (take i all ++ r ∷ []) (vs ++ option_to_list o)
    by None broken none = subst (AreBroken d s (take i all ++ r ∷ [])) (sym (append-nil vs)) (kept d s (take i all) r vs broken none)
    by (Some v) broken some = found d s (take i all) r vs v broken some.rule some.first
