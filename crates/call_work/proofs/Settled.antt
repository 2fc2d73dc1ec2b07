-- The statuses that forms settle for.
use Rattle.std.proofs.Common.{◌≡◌, ◌==◌, ◌||◌, Bool, true, false, [], ◌∷◌, Option, Some, None, Result, Ok, Err, IsNone, refl, sym, subst}
use Rattle.call_end.specs.declared.end.End.{End}
use Rattle.call_end.specs.declared.status.Status.{Status}
use Rattle.call_end.specs.declared.status.Status.TheVariants as status
use Rattle.call_end.specs.Status.{number_of}
use Rattle.call_read.specs.declared.refusal.Refusal.{Refusal}
use Rattle.call_words.specs.Words.{Form}
use Rattle.call_work.proofs.EachCommand.{outside_apart, works_settled}
use Rattle.call_work.proofs.Gathered.{IsGathered}
use Rattle.call_work.proofs.Statuses.{among_one}
use Rattle.call_work.specs.Commands.{Kind, Material, kind_of, settled_by}
use Rattle.call_work.specs.Ends.{EndsTo, desk_statuses, is_among, settled_of}

-- what was gathered, or refused by its form, ends so
pub settled : (form : Option Form) (got : Result Material Refusal) (end : End) → IsGathered form got → EndsTo got end → is_among (settled_of form) end.status ≡ true
settled None (Ok m) end is ends = absurd is
settled None (Err e) end is ends = rw (ends, is) refl
settled (Some form) (Ok m) end is ends = subst (λ (kind : Kind). is_among (settled_by kind) end.status ≡ true) is (works_settled m.0 m.1 end ends)
settled (Some form) (Err e) end is ends = subst (λ (x : End). is_among (settled_by (kind_of form)) x.status ≡ true) (sym ends) is

-- ---- no kind settles for a status of the desk or of the words

or_also : (p q : Bool) → q ≡ true → (p || q) ≡ true
or_also true q h = refl
or_also false q h = h

pub not_of_desk : (form : Option Form) (answer : Status) → is_among (settled_of form) answer ≡ true → is_among desk_statuses answer ≡ true → ⊥
not_of_desk None answer settles desk = among_one (status.Usage ∷ []) desk_statuses answer refl settles desk
not_of_desk (Some form) answer settles desk = among_one (settled_by (kind_of form)) (status.Usage ∷ desk_statuses) answer (outside_apart (kind_of form)) settles (or_also (number_of status.Usage == number_of answer) (is_among desk_statuses answer) desk)

pub usage_alone : (form : Option Form) → is_among (settled_of form) status.Usage ≡ true → IsNone form
usage_alone None settles = refl
usage_alone (Some form) settles = absurd (among_one (settled_by (kind_of form)) (status.Usage ∷ desk_statuses) status.Usage (outside_apart (kind_of form)) settles refl)
