-- Which certificates are accepted, and why others are refused: each as the checker of its version says.
use Rattle.std.specs.Prelude.{ℕ}
use Rattle.cell_num.specs.declared.finger.Fingers.{Fingers}
use Rattle.trail_check.specs.declared.refusal.TrailRefusal.{TrailRefusal}
use Rattle.trail_check.specs.Accepted as filled
use Rattle.trail_check.specs.Gates as gates
use Rattle.trail_check.specs.Refusal as filled_refusal
use Rattle.fewer_fingers.specs.Fewer.{staying}
use Rattle.pool_certificate.specs.Accepted as pooled
use Rattle.pool_certificate.specs.Refusal as pooled_refusal
use Rattle.trail_either.specs.declared.evidence.TrailEvidence.{TrailEvidence}
use Rattle.trail_either.specs.declared.evidence.TrailEvidence.TheVariants.{Filled, Pools}

abbrev pub IsEitherAccepted : Fingers → TrailEvidence → ℕ → Type 0
IsEitherAccepted f (Filled trails) gaps = filled.IsAccepted f trails gaps
IsEitherAccepted f (Pools c) gaps = pooled.IsAccepted f c gaps

-- accepted with no number of gaps
abbrev pub IsNeverAccepted : Fingers → TrailEvidence → Type 0
IsNeverAccepted f evidence = (gaps : ℕ) → IsEitherAccepted f evidence gaps → ⊥

-- no gate has too many ways for a checker to list
abbrev pub HasFewEitherWays : Fingers → TrailEvidence → Type 0
HasFewEitherWays f (Filled trails) = gates.HasFewWays f trails
HasFewEitherWays f (Pools c) = pooled.HasFewWaysOf (staying c.out f) c.pools

-- each lemma of the certificate is true of the fingers that it is about
abbrev pub AreEitherTrue : Fingers → TrailEvidence → Type 0
AreEitherTrue f (Filled trails) = filled.AreTrueOf f trails
AreEitherTrue f (Pools c) = pooled.AreTrueLemmas (staying c.out f) c.pools

abbrev pub EitherRefuses : Fingers → TrailEvidence → TrailRefusal → Type 0
EitherRefuses f (Filled trails) cause = filled_refusal.Refuses f trails cause
EitherRefuses f (Pools c) cause = pooled_refusal.Refuses f c cause
