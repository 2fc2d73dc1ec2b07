-- Why a certificate is refused, each cause with what was found in order before it.
use Rattle.std.specs.Prelude.{ℕ, ◌≡◌, Option, Some, None}
use Rattle.cell_num.specs.declared.finger.Fingers.{Fingers}
use Rattle.row_state.specs.declared.kind.Kinds.{Kinds}
use Rattle.bound_log.specs.declared.log.Best.{Best}
use Rattle.log_check.specs.Accepted.{WithKinds}
use Rattle.log_check.specs.declared.refused.Refused.TheVariants as because
use Rattle.log_check.specs.Refusal.{BestRefuses}
use Rattle.trail_log.specs.declared.trails.TrailCertificate.{TrailCertificate}
use Rattle.trail_check.specs.declared.refusal.TrailRefusal.{TrailRefusal}
use Rattle.trail_check.specs.declared.refusal.TrailRefusal.TheVariants as refusal
use Rattle.trail_check.specs.Accepted.{first_unproved, least_gaps}
use Rattle.trail_check.specs.Gates.{AreGates, HasFewWays, first_with_many}
use Rattle.trail_check.specs.Leveled.{closed_of}

-- the row is refused as that of a log whose lemmas prove so many gaps
abbrev pub RowRefused : Kinds → Fingers → ℕ → Option Best → TrailRefusal → Type 0
RowRefused k f proved best (refusal.NoRow b) = BestRefuses k f proved best (because.NoRow b)
RowRefused k f proved best refusal.NotArrangement = BestRefuses k f proved best because.NotArrangement
RowRefused k f proved best (refusal.Gaps said counted) = BestRefuses k f proved best (because.Gaps said counted)
RowRefused k f proved best (refusal.NotLeast b said) = BestRefuses k f proved best (because.NotLeast b said)
RowRefused k f proved best refusal.NoMemory = Unit {0}
RowRefused k f proved best _ = ⊥

-- a lemma is not justified, the first of them at that line
abbrev pub LemmasRefused : Option ℕ → TrailRefusal → Type 0
LemmasRefused first (refusal.Unproved line) = first ≡ Some line
LemmasRefused first refusal.NoMemory = Unit {0}
LemmasRefused first _ = ⊥

-- the gates are not as asked; or they are, and one has too many ways; or none has, and a lemma is not justified; or
-- all are, and the row is refused
abbrev pub Refuses : Fingers → TrailCertificate → TrailRefusal → Type 0
Refuses f trails refusal.Gates = AreGates f trails → ⊥
Refuses f trails (refusal.Choices gate) = AreGates f trails × (first_with_many f (closed_of f trails) ≡ Some gate)
Refuses f trails (refusal.Unproved line) = AreGates f trails × HasFewWays f trails
    × (first_unproved f trails ≡ Some line)
Refuses f trails refusal.NoMemory = Unit {0}
Refuses f trails cause =
    AreGates f trails
    × HasFewWays f trails
    × (first_unproved f trails ≡ None)
    × WithKinds f (λ (k : Kinds). RowRefused k f (least_gaps f trails) trails.best cause)

-- A fault of the certificate itself. The other two causes are limits of a checker: one with more memory and time may
-- accept it.
abbrev pub IsFault : TrailRefusal → Type 0
IsFault (refusal.Choices gate) = ⊥
IsFault refusal.NoMemory = ⊥
IsFault _ = Unit {0}

-- so it is of the number of gaps that the lemmas prove, where the refusal tells it
abbrev pub Proves : (ℕ → Type 0) → TrailRefusal → Type 0
Proves Says (refusal.NoRow best) = Says best
Proves Says (refusal.NotLeast best said) = Says best
Proves Says _ = Unit {0}
