-- What a check of some bytes comes to, from what the reader and the checker of certificates answered.
use Rattle.std.proofs.Common.{ℕ, ◌≡◌, ◌≢◌, ◌⊎◌, List, [], Result, Ok, Err, IfOk, inl, inr, refl, sym, ap, subst, arith, ◌∙◌}
use Rattle.std.specs.Prelude.{MatchOption}
use Rattle.cell_num.specs.declared.list.NoMemory.{NoMemory}
use Rattle.row_model.specs.declared.column.Column.{Column}
use Rattle.row_state.specs.declared.kind.Kinds.{Kinds}
use Rattle.row_state.specs.Start.{AreKinds, AreSomeKinds}
use Rattle.bound_log.specs.declared.fault.LogFault.{LogFault}
use Rattle.bound_log.specs.declared.fault.LogFault.TheVariants as misread_by
use Rattle.log_check.specs.Accepted.{WithKinds, columns_listed}
use Rattle.log_check.proofs.SameKinds.{for_kinds}
use Rattle.cell_commands.proofs.Accepted.{listed_so}
use Rattle.trail_check.specs.declared.refusal.TrailRefusal.{TrailRefusal}
use Rattle.trail_check.specs.declared.refusal.TrailRefusal.TheVariants as because
use Rattle.trail_check.specs.Accepted.{IsLow}
use Rattle.trail_check.specs.Refusal.{IsFault}
use Rattle.trail_either.specs.declared.evidence.TrailEvidence.{TrailEvidence}
use Rattle.trail_either.specs.Accepted.{HasFewEitherWays, IsEitherAccepted, IsNeverAccepted}
use Rattle.trail_either.specs.Either.{EitherFits, best_in, either_text}
use Rattle.trail_either.specs.Reading.{either_of}
use Rattle.trail_either.proofs.Passes.{Passes, passes}
use Rattle.call_end.specs.declared.end.End.{End}
use Rattle.call_end.specs.declared.status.Status.TheVariants as status
use Rattle.cell_inputs.specs.Inputs.{Inputs}
use Rattle.cell_commands.specs.TrailCheck.{Checks, HoldsAccepted, HoldsCrowded, HoldsRefused, IsListed, TrailChecksTo, check_end}
use Rattle.cell_commands.specs.Judged.{Judges}
use Rattle.cell_commands.specs.declared.trail_checking.TrailAnswer.{TrailAnswer}
use Rattle.cell_commands.specs.declared.trail_checking.TrailAnswer.TheVariants.{Accepted, Misread, Rejected}

-- the bytes are the text of this certificate and of no other, for the kinds of the fingers
pub record AreTextOf (inputs : Inputs) (bytes : List ℕ) (k : Kinds) (trails : TrailEvidence) : Type 0 where
  pub kinds : AreKinds inputs.fingers k
  pub some_kinds : AreSomeKinds k
  pub read : either_of bytes inputs.cell.name k ≡ Ok trails
  pub fits : EitherFits k trails
  pub text : bytes ≡ either_text inputs.cell.name trails
  pub one : (other : TrailEvidence) → EitherFits k other → either_text inputs.cell.name other ≡ bytes → other ≡ trails

-- a certificate that is accepted with no gaps has no text that an accepted one has
rejected : (inputs : Inputs) (bytes : List ℕ) (k : Kinds) (trails : TrailEvidence)
    → AreTextOf inputs bytes k trails → IsNeverAccepted inputs.fingers trails → HoldsAccepted inputs bytes → ⊥
rejected inputs bytes k trails is never (gaps, lemmas, filled, (j, of_j, some_j, holds)) =
    let fits : EitherFits k holds.trails =
    for_kinds inputs.fingers j (λ kinds. EitherFits kinds holds.trails) of_j some_j holds.fits k is.kinds is.some_kinds in
    let same : holds.trails ≡ trails = is.one holds.trails fits (sym holds.text) in
    never gaps (subst (λ (t : TrailEvidence). IsEitherAccepted inputs.fingers t gaps) same holds.accepted)

-- the row that the certificate lists, by kinds of the fingers
listed : (inputs : Inputs) (bytes : List ℕ) (k : Kinds) (trails : TrailEvidence) (row : List Column) (gaps : ℕ) → AreTextOf inputs bytes k trails → IsLow inputs.fingers gaps → IsEitherAccepted inputs.fingers trails gaps → HasFewEitherWays inputs.fingers trails → MatchOption (best_in trails) (row ≡ []) (λ best. row ≡ columns_listed k best.steps) → IsListed inputs bytes row trails
listed inputs bytes k trails row gaps is low accepted few columns =
    let passed : Passes inputs.fingers k trails gaps = passes inputs.fingers k trails gaps is.kinds is.some_kinds accepted in
    let (lists, arranges, same) = listed_so k inputs.fingers passed.proved gaps row (best_in trails) passed.best columns in
    record {
      arranges = arranges;
      least = λ other arranged. omega (arith, low other arranged, same);
      text = is.text;
      listed = (k, is.kinds, is.some_kinds, record { accepted = subst (IsEitherAccepted inputs.fingers trails) same accepted; few_ways = few; lists = lists; fits = is.fits });
    }

judged : (inputs : Inputs) (bytes : List ℕ) (k : Kinds) (trails : TrailEvidence) (answer : TrailAnswer) → AreTextOf inputs bytes k trails → Judges inputs.fingers k trails answer → Checks inputs bytes answer
judged inputs bytes k trails (Accepted row gaps lemmas filled) is (low, accepted, few, many, full, columns) = (
  low,
  (k, is.kinds, is.some_kinds, record { trails = trails; fits = is.fits; text = is.text; accepted = accepted; lemmas_are = many; filled_are = full }),
  (trails, listed inputs bytes k trails row gaps is low accepted few columns, many, full),
)
judged inputs bytes k trails (Misread f) is judges = absurd judges
judged inputs bytes k trails (Rejected cause) is (other, refuses, never) = (
  other,
  (k, is.kinds, is.some_kinds, (trails, is.read, refuses)),
  λ fault. rejected inputs bytes k trails is (never fault),
)

pub judged_checks : (inputs : Inputs) (bytes : List ℕ) (k : Kinds) (trails : TrailEvidence) (r : Result TrailAnswer NoMemory) → AreTextOf inputs bytes k trails → IfOk r (Judges inputs.fingers k trails) → IfOk r (Checks inputs bytes)
judged_checks inputs bytes k trails (Ok answer) is judges = judged inputs bytes k trails answer is judges
judged_checks inputs bytes k trails (Err e) is judges = tt

misread : (inputs : Inputs) (bytes : List ℕ) (k : Kinds) (f : LogFault) → AreKinds inputs.fingers k → AreSomeKinds k → f ≢ misread_by.NoMemory → either_of bytes inputs.cell.name k ≡ Err f → ((trails : TrailEvidence) → EitherFits k trails → either_text inputs.cell.name trails ≢ bytes) → Checks inputs bytes (Misread f)
misread inputs bytes k f of_k some_k other wrong none =
    (other, (k, of_k, some_k, wrong), λ (gaps, lemmas, filled, (j, of_j, some_j, holds)). none holds.trails (for_kinds inputs.fingers j (λ kinds. EitherFits kinds holds.trails) of_j some_j holds.fits k of_k some_k) (sym holds.text))

pub misread_checks : (inputs : Inputs) (bytes : List ℕ) (k : Kinds) (f : LogFault) (r : Result TrailAnswer NoMemory) → AreKinds inputs.fingers k → AreSomeKinds k → (f ≢ misread_by.NoMemory → either_of bytes inputs.cell.name k ≡ Err f) → (f ≢ misread_by.NoMemory → (trails : TrailEvidence) → EitherFits k trails → either_text inputs.cell.name trails ≢ bytes) → IfOk r (λ answer. (f ≢ misread_by.NoMemory) × (answer ≡ Misread f)) → IfOk r (Checks inputs bytes)
misread_checks inputs bytes k f (Ok answer) of_k some_k wrong none (other, is) =
    subst (λ (a : TrailAnswer). Checks inputs bytes a) (sym is) (misread inputs bytes k f of_k some_k other (wrong other) (none other))
misread_checks inputs bytes k f (Err e) of_k some_k wrong none is = tt

-- ---- the status

not_done : (end other : End) → other.status ≡ status.Rejected → end ≡ other → end.status ≡ status.Done → ⊥
not_done end other rejected is done =
    let both : status.Rejected ≡ status.Done = sym rejected ∙ (sym (ap (λ (e : End). e.status) is) ∙ done) in
    cc

pub done_holds : (inputs : Inputs) (bytes : List ℕ) (end : End) → TrailChecksTo inputs bytes end → end.status ≡ status.Done → HoldsAccepted inputs bytes
done_holds inputs bytes end (Accepted row gaps lemmas filled, (least, text, lists), is) done = (gaps, lemmas, filled, text)
done_holds inputs bytes end (Misread f, h, is) done = absurd (not_done end (check_end inputs (Misread f)) refl is done)
done_holds inputs bytes end (Rejected cause, h, is) done =
    absurd (not_done end (check_end inputs (Rejected cause)) refl is done)

-- an accepted certificate is refused for a gate with too many ways alone
is_crowded : (inputs : Inputs) (bytes : List ℕ) (cause : TrailRefusal)
    → cause ≢ because.NoMemory → WithKinds inputs.fingers (HoldsRefused inputs bytes cause)
    → (IsFault cause → HoldsAccepted inputs bytes → ⊥) → HoldsAccepted inputs bytes → HoldsCrowded inputs bytes
is_crowded inputs bytes (because.Choices gate) other wrong none holds = (gate, wrong)
is_crowded inputs bytes because.NoMemory other wrong none holds = absurd (other refl)
is_crowded inputs bytes because.Gates other wrong none holds = absurd (none tt holds)
is_crowded inputs bytes (because.Line line) other wrong none holds = absurd (none tt holds)
is_crowded inputs bytes (because.Unproved line) other wrong none holds = absurd (none tt holds)
is_crowded inputs bytes (because.NoRow best) other wrong none holds = absurd (none tt holds)
is_crowded inputs bytes because.NotArrangement other wrong none holds = absurd (none tt holds)
is_crowded inputs bytes (because.Gaps said counted) other wrong none holds = absurd (none tt holds)
is_crowded inputs bytes (because.NotLeast best said) other wrong none holds = absurd (none tt holds)

pub holds_done : (inputs : Inputs) (bytes : List ℕ) (end : End)
    → HoldsAccepted inputs bytes → TrailChecksTo inputs bytes end
    → (end.status ≡ status.Done) ⊎ HoldsCrowded inputs bytes
holds_done inputs bytes end holds (Accepted row gaps lemmas filled, h, is) = inl (rw is refl)
holds_done inputs bytes end holds (Misread f, (other, wrong, none), is) = absurd (none holds)
holds_done inputs bytes end holds (Rejected cause, (other, wrong, none), is) =
    inr (is_crowded inputs bytes cause other wrong none holds)
