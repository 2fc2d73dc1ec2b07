-- Ends of a kind: with a status that it settles for, and with files where it makes them.
use Rattle.std.proofs.Common.{◌≡◌, ◌⊎◌, true, List, [], ◌∷◌, inl, inr, map, refl, sym, subst}
use Rattle.call_end.specs.declared.end.End.{End}
use Rattle.call_end.specs.declared.end.Output.{Output}
use Rattle.call_end.specs.declared.status.Status.{Status}
use Rattle.call_end.specs.declared.status.Status.TheVariants as status
use Rattle.call_work.specs.Commands.{Kind, Making, MakingFrom, MakingLow, Rowing, settled_by}
use Rattle.call_work.specs.Ends.{is_among}
use Rattle.call_end.specs.End.{named}

abbrev pub make_statuses : List Status
make_statuses = status.Done ∷ status.Cycle ∷ status.Unfinished ∷ status.TooTall ∷ []

-- `make` makes files, also of the lowest row, but none where it ends with a status that is not its own; with a given file
-- it makes some where it is done, as `row` does
abbrev pub HasNoFiles : Kind → End → Type 0
HasNoFiles kind end =
    (end.files ≡ [])
    ⊎ ((kind ≡ Making) × (is_among make_statuses end.status ≡ true))
    ⊎ ((kind ≡ Rowing) × (end.status ≡ status.Done))
    ⊎ ((kind ≡ MakingFrom) × (end.status ≡ status.Done))
    ⊎ ((kind ≡ MakingLow) × (is_among make_statuses end.status ≡ true))

-- an end with a status that its kind settles for, and with files where its kind makes them
pub record IsEndOf (kind : Kind) (end : End) : Type 0 where
  pub settled : is_among (settled_by kind) end.status ≡ true
  pub files : HasNoFiles kind end

pub told : {end of : End} (kind : Kind) → end ≡ of → is_among (settled_by kind) of.status ≡ true → of.files ≡ [] → IsEndOf kind end
told kind is settled none = subst (λ (end : End). IsEndOf kind end) (sym is) (record { settled = settled; files = inl none })

-- an end with a status of `make`, for a kind that may make files with each of these
abbrev pub MayMake : Kind → Type 0
MayMake kind = (end : End) → is_among make_statuses end.status ≡ true → HasNoFiles kind end

makes_by : {end : End} {answer : Status} (kind : Kind) → MayMake kind → end.status ≡ answer → is_among (settled_by kind) answer ≡ true → is_among make_statuses answer ≡ true → IsEndOf kind end
makes_by {end} kind may is settled own =
    record {
      settled = subst (λ (answer : Status). is_among (settled_by kind) answer ≡ true) (sym is) settled;
      files = may end (subst (λ (answer : Status). is_among make_statuses answer ≡ true) (sym is) own);
    }

pub makes : {end : End} {answer : Status} → end.status ≡ answer → is_among (settled_by Making) answer ≡ true → is_among make_statuses answer ≡ true → IsEndOf Making end
makes is settled own = makes_by Making (λ end own. inr (inl (refl, own))) is settled own

pub makes_low : {end : End} {answer : Status} → end.status ≡ answer → is_among (settled_by MakingLow) answer ≡ true → is_among make_statuses answer ≡ true → IsEndOf MakingLow end
makes_low is settled own = makes_by MakingLow (λ end own. inr (inr (inr (inr (refl, own))))) is settled own

-- an end that makes no file
pub makes_none : {end : End} {answer : Status} (kind : Kind) → end.status ≡ answer → is_among (settled_by kind) answer ≡ true → map named end.files ≡ [] → IsEndOf kind end
makes_none {end} kind is settled none = record { settled = subst (λ (s : Status). is_among (settled_by kind) s ≡ true) (sym is) settled; files = inl (none_are end.files none) }
  where
    none_are : (files : List Output) → map named files ≡ [] → files ≡ []
    none_are [] e = refl
    none_are (file ∷ more) e = cc
