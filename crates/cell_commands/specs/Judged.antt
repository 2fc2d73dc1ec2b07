-- What a certificate that was read results in.
use Rattle.std.specs.Prelude.{◌≡◌, ◌≢◌, [], MatchOption}
use Rattle.cell_num.specs.declared.finger.Fingers.{Fingers}
use Rattle.row_state.specs.declared.kind.Kinds.{Kinds}
use Rattle.log_check.specs.Accepted.{columns_listed}
use Rattle.trail_check.specs.declared.refusal.TrailRefusal.TheVariants as because
use Rattle.trail_check.specs.Accepted.{IsLow}
use Rattle.trail_check.specs.Refusal.{IsFault}
use Rattle.trail_either.specs.declared.evidence.TrailEvidence.{TrailEvidence}
use Rattle.trail_either.specs.Accepted.{EitherRefuses, HasFewEitherWays, IsEitherAccepted, IsNeverAccepted}
use Rattle.trail_either.specs.Either.{best_in, fill_count, lemma_count}
use Rattle.cell_commands.specs.declared.trail_checking.TrailAnswer.{TrailAnswer}
use Rattle.cell_commands.specs.declared.trail_checking.TrailAnswer.TheVariants.{Accepted, Misread, Rejected}

-- it is accepted, with few ways at each gate, with these counts and the columns that it lists, for these kinds, and no
-- arrangement of the fingers has fewer gaps; or it is refused by this cause, and by a fault it is accepted with no gaps
abbrev pub Judges : Fingers → Kinds → TrailEvidence → TrailAnswer → Type 0
Judges f k trails (Accepted row gaps lemmas filled) =
    IsLow f gaps
    × IsEitherAccepted f trails gaps
    × HasFewEitherWays f trails
    × (lemmas ≡ lemma_count trails)
    × (filled ≡ fill_count trails)
    × MatchOption (best_in trails) (row ≡ []) (λ best. row ≡ columns_listed k best.steps)
Judges f k trails (Misread fault) = ⊥
Judges f k trails (Rejected cause) =
    (cause ≢ because.NoMemory)
    × EitherRefuses f trails cause
    × (IsFault cause → IsNeverAccepted f trails)
