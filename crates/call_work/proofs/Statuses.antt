-- Statuses that differ, and lists of statuses that have none in common.
use Rattle.std.proofs.Common.{◌≡◌, ◌==◌, ◌||◌, not, Bool, true, false, List, [], ◌∷◌, refl, sym, ap, ◌∙◌, inl, inr}
use Rattle.std.specs.List.{list_all, list_any}
use Rattle.std.proofs.lemmas.Bool.{and_parts, cases_Bool}
use Rattle.std.proofs.lemmas.Bool.Decides.{Decides-eqb}
use Rattle.call_end.specs.declared.status.Status.{Status}
use Rattle.call_end.specs.declared.status.Status.TheVariants as status
use Rattle.call_end.specs.Status.{number_of}
use Rattle.call_read.specs.declared.refusal.Refusal.{Refusal}
use Rattle.call_read.specs.declared.refusal.Refusal.TheVariants.{Words, Unread, Long, Tech, Spice, Fold, Gds, Lef, NoMemory}
use Rattle.call_work.specs.Ends.{is_among, refusal_status}
use Rattle.gds_area.specs.declared.fault.GdsFault.{GdsFault}
use Rattle.lef_read.specs.declared.fault.LefFault.{LefFault}

pub differ : (a b : Status) → (number_of a == number_of b) ≡ false → a ≡ b → ⊥
differ a b other is =
    let same : (number_of a == number_of b) ≡ true = (Decides-eqb (number_of a) (number_of b)).1 (ap number_of is) in
    cc

-- none of the first list is in the second
abbrev pub are_apart : List Status → List Status → Bool
are_apart xs ys = list_all (λ (x : Status). not (is_among ys x)) xs

not_so : (b : Bool) → not b ≡ true → b ≡ false
not_so true h = cc
not_so false h = refl

or_other : (p q : Bool) → p ≡ false → (p || q) ≡ true → q ≡ true
or_other true q none h = cc
or_other false q none h = h

not_among : (xs ys : List Status) (answer : Status) → are_apart xs ys ≡ true → is_among xs answer ≡ true → is_among ys answer ≡ false
not_among [] ys answer apart among = cc
not_among (x ∷ xs) ys answer apart among =
    let (first, rest) = and_parts (not (is_among ys x)) (are_apart xs ys) apart in
    elim (cases_Bool (number_of x == number_of answer)) [
      | inl same ↦ sym (ap (λ n. list_any (λ (other : Status). number_of other == n) ys) ((Decides-eqb (number_of x) (number_of answer)).0 same)) ∙ not_so (is_among ys x) first
      | inr other ↦ not_among xs ys answer rest (or_other (number_of x == number_of answer) (is_among xs answer) other among)
    ]

pub among_one : (xs ys : List Status) (answer : Status) → are_apart xs ys ≡ true → is_among xs answer ≡ true → is_among ys answer ≡ true → ⊥
among_one xs ys answer apart among also =
    let none : is_among ys answer ≡ false = not_among xs ys answer apart among in
    cc

-- ---- refusals

abbrev pub refusal_statuses : List Status
refusal_statuses = status.Usage ∷ status.ReadFault ∷ status.TooLong ∷ status.Input ∷ status.Layout ∷ status.Disagree ∷ status.NoMemory ∷ []

pub is_refusal : (e : Refusal) → is_among refusal_statuses (refusal_status e) ≡ true
is_refusal Words = refl
is_refusal (Unread name) = refl
is_refusal (Long name) = refl
is_refusal (Tech f) = refl
is_refusal (Spice f) = refl
is_refusal (Fold f) = refl
is_refusal (Gds f) = refl
is_refusal (Lef f) = refl
is_refusal NoMemory = refl

-- a refusal with the status of layouts is a fault of a GDSII file
pub gds_alone : (e : Refusal) → status.Layout ≡ refusal_status e → (f : GdsFault) × (e ≡ Gds f)
gds_alone (Gds f) is = (f, refl)
gds_alone Words is = absurd (differ status.Layout status.Usage refl is)
gds_alone (Unread name) is = absurd (differ status.Layout status.ReadFault refl is)
gds_alone (Long name) is = absurd (differ status.Layout status.TooLong refl is)
gds_alone (Tech f) is = absurd (differ status.Layout status.Input refl is)
gds_alone (Spice f) is = absurd (differ status.Layout status.Input refl is)
gds_alone (Fold f) is = absurd (differ status.Layout status.Input refl is)
gds_alone (Lef f) is = absurd (differ status.Layout status.Disagree refl is)
gds_alone NoMemory is = absurd (differ status.Layout status.NoMemory refl is)

-- and one with that of differences a fault of a LEF file
pub lef_alone : (e : Refusal) → status.Disagree ≡ refusal_status e → (f : LefFault) × (e ≡ Lef f)
lef_alone (Lef f) is = (f, refl)
lef_alone Words is = absurd (differ status.Disagree status.Usage refl is)
lef_alone (Unread name) is = absurd (differ status.Disagree status.ReadFault refl is)
lef_alone (Long name) is = absurd (differ status.Disagree status.TooLong refl is)
lef_alone (Tech f) is = absurd (differ status.Disagree status.Input refl is)
lef_alone (Spice f) is = absurd (differ status.Disagree status.Input refl is)
lef_alone (Fold f) is = absurd (differ status.Disagree status.Input refl is)
lef_alone (Gds f) is = absurd (differ status.Disagree status.Layout refl is)
lef_alone NoMemory is = absurd (differ status.Disagree status.NoMemory refl is)
