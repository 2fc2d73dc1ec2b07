-- Why a certificate is refused, each cause with what was found in order before it.
use Rattle.std.specs.Prelude.{ℕ, ◌≡◌, ◌+◌, ◌⊎◌, List, Option, Some, None, All, slice_get, take}
use Rattle.cell_num.specs.declared.finger.Fingers.{Fingers}
use Rattle.row_state.specs.declared.kind.Kinds.{Kinds}
use Rattle.log_check.specs.Accepted.{WithKinds}
use Rattle.trail_state.specs.Levels.{IsOrder}
use Rattle.trail_check.specs.declared.refusal.TrailRefusal.{TrailRefusal}
use Rattle.trail_check.specs.declared.refusal.TrailRefusal.TheVariants as refusal
use Rattle.trail_check.specs.Refusal.{RowRefused}
use Rattle.trail_pools.specs.declared.level.PoolLevel.{PoolLevel}
use Rattle.trail_pools.specs.declared.pools.Pools.{Pools}
use Rattle.trail_pools.specs.Leveled.{levels_of, pools_of}
use Rattle.order_log.specs.declared.certificate.OrderCertificate.{OrderCertificate}
use Rattle.fewer_fingers.specs.declared.fewer.LeftOut.{LeftOut}
use Rattle.fewer_fingers.specs.Fewer.{staying}
use Rattle.fewer_log.specs.declared.certificate.FewerCertificate.{FewerCertificate}
use Rattle.pool_log.specs.declared.lemma.PoolLine.{PoolLine}
use Rattle.pool_lines.specs.Texts.{IsTextOfState}
use Rattle.pool_check.specs.declared.refusal.PoolRefusal.{PoolRefusal}
use Rattle.pool_check.specs.declared.refusal.PoolRefusal.TheVariants as cause
use Rattle.pool_check.specs.Refusal.{Refuses as RefusesLemmas}
use Rattle.pool_certificate.specs.Accepted.{AreTexts, HasFewWaysOf, IsFill, ProvesOfAll, lemmas_of, open_of}

-- The line of the first lemma. Where fingers are left out, two lines are before those of other certificates.
abbrev pub lemma_line : Option LeftOut → ℕ
lemma_line None = 5
lemma_line (Some out) = 7

abbrev pub refusal_of : ℕ → PoolRefusal → TrailRefusal
refusal_of first cause.Order = refusal.Gates
refusal_of first (cause.Choices gate) = refusal.Choices gate
refusal_of first (cause.Unproved at) = refusal.Unproved (at + first)
refusal_of first cause.NoMemory = refusal.NoMemory

-- The line at the place is not the text of the state that it lists, while those before it are.
pub record IsFirstOther (pools : Pools) (levels : List PoolLevel) (lines : List PoolLine) (at : ℕ) : Type 0 where
  pub line : PoolLine
  pub there : slice_get lines at ≡ Some line
  pub before : All (IsTextOfState pools levels) (take at lines)
  pub other : IsTextOfState pools levels line → ⊥

-- The order is right, and no gate has too many ways. The first line that is not the text of its state has this number.
pub record IsLineRefused (f : Fingers) (pools : OrderCertificate PoolLine) (first number : ℕ) : Type 0 where
  pub order : IsOrder f pools.order
  pub few_ways : HasFewWaysOf f pools
  pub at : ℕ
  pub line : IsFirstOther (pools_of f (open_of f pools)) (levels_of f (open_of f pools) pools.order) pools.lemmas at
  pub number_is : number ≡ at + first

-- what was found of the lines: each is the text of its state, where a lemma is refused
abbrev pub AreTextsBefore : Fingers → OrderCertificate PoolLine → PoolRefusal → Type 0
AreTextsBefore f pools (cause.Unproved at) = AreTexts f pools
AreTextsBefore f pools _ = Unit {0}

-- the order or the lemmas are refused, for the fingers that they are about
pub record AreLemmasRefused (f : Fingers) (pools : OrderCertificate PoolLine) (first : ℕ) (why : TrailRefusal)
    : Type 0 where
  pub because : PoolRefusal
  pub why_is : why ≡ refusal_of first because
  pub texts : AreTextsBefore f pools because
  pub refused : RefusesLemmas f (open_of f pools) pools.order (lemmas_of f pools) because

-- a gate that is filled has no half columns, or not all that stay open have more fingers in one row
abbrev pub IsFillRefused : Fingers → OrderCertificate PoolLine → TrailRefusal → Type 0
IsFillRefused f pools why = (IsFill f pools → ⊥) × (why ≡ refusal.Gates)

-- so it is; or not, and the order or the lemmas are refused
abbrev pub LemmasRefused : Fingers → FewerCertificate → TrailRefusal → Type 0
LemmasRefused f c why =
    IsFillRefused (staying c.out f) c.pools why
    ⊎ (IsFill (staying c.out f) c.pools × AreLemmasRefused (staying c.out f) c.pools (lemma_line c.out) why)

-- all before the row is accepted, and the row is refused as that of a log whose lemmas prove so many gaps
pub record IsRowRefused (f : Fingers) (c : FewerCertificate) (why : TrailRefusal) : Type 0 where
  pub proved : ℕ
  pub lemmas : ProvesOfAll f c proved
  pub few_ways : HasFewWaysOf (staying c.out f) c.pools
  pub row : WithKinds f (λ (k : Kinds). RowRefused k f proved c.pools.best why)

abbrev pub Refuses : Fingers → FewerCertificate → TrailRefusal → Type 0
Refuses f c refusal.Gates = LemmasRefused f c refusal.Gates
Refuses f c (refusal.Choices gate) = LemmasRefused f c (refusal.Choices gate)
Refuses f c (refusal.Line line) =
    IsFill (staying c.out f) c.pools × IsLineRefused (staying c.out f) c.pools (lemma_line c.out) line
Refuses f c (refusal.Unproved line) = LemmasRefused f c (refusal.Unproved line)
Refuses f c refusal.NoMemory = Unit {0}
Refuses f c why = IsRowRefused f c why

-- ---- before the row

-- the cause is a line that is not the text of its state
abbrev pub IsForLine : Fingers → OrderCertificate PoolLine → ℕ → TrailRefusal → Type 0
IsForLine f pools first why = (line : ℕ) × (why ≡ refusal.Line line) × IsLineRefused f pools first line

-- what is filled is refused; or not, and the order, a line or the lemmas are, for the fingers that they are about
abbrev pub AreEndsRefused : Fingers → OrderCertificate PoolLine → ℕ → TrailRefusal → Type 0
AreEndsRefused f pools first why =
    IsFillRefused f pools why
    ⊎ (IsFill f pools × (AreLemmasRefused f pools first why ⊎ IsForLine f pools first why))

-- the certificate is refused before its row is looked at
abbrev pub EndsRefused : Fingers → FewerCertificate → TrailRefusal → Type 0
EndsRefused f c why = AreEndsRefused (staying c.out f) c.pools (lemma_line c.out) why
