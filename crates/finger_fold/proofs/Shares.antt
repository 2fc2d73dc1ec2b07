-- The widths of a transistor's fingers.
use Rattle.std.proofs.Common.{ℕ, ◌≡◌, ◌+◌, ◌*◌, ◌/◌, ◌%◌, ◌≤◌, ◌<◌, arith, inl, inr}
use Rattle.std.proofs.Math.Nat.{mul-le-mul, mod-lt, div-add-mod'}
use Rattle.std.proofs.lemmas.Bool.{cases_lt}
use Rattle.spice_net.specs.declared.subckt.Device.{Device}
use Rattle.tech_file.specs.Technology.{Technology, IsTechnology}
use Rattle.finger_fold.specs.Folding.{widest, count_of}
use Rattle.finger_fold.proofs.Counts.{enough, six_units, count_positive, most_widest}

-- w units over k fingers, q and sometimes one more to each, where k fingers of m units are enough and
-- there are 6 units for each
record AreShares (w m k q r : ℕ) : Type 0 where
  pub most : m ≤ 400
  pub units : 6 * k ≤ w
  pub enough : w ≤ k * m
  pub whole : q * k + r ≡ w
  pub rest : r < k

share_least : (w m k q r : ℕ) → AreShares w m k q r → 6 ≤ q
share_least w m k q r h = elim (cases_lt q 6) [
  | inl few ↦
      let less : q * k ≤ 5 * k = mul-le-mul (omega (arith, few)) (omega arith) in
      omega (arith, less, h.units, h.whole, h.rest)
  | inr enough ↦ enough
]

share_most : (w m k q r : ℕ) → AreShares w m k q r → q ≤ 400
share_most w m k q r h = elim (cases_lt 400 q) [
  | inl many ↦
      let more : 401 * k ≤ q * k = mul-le-mul (omega (arith, many)) (omega arith) in
      let less : k * m ≤ k * 400 = mul-le-mul (omega arith) h.most in
      omega (arith, more, less, h.enough, h.whole, h.rest)
  | inr few ↦ few
]

share_more : (w m k q r : ℕ) → AreShares w m k q r → 0 < r → q + 1 ≤ 400
share_more w m k q r h some = elim (cases_lt q 400) [
  | inl few ↦ omega (arith, few)
  | inr many ↦
      let more : 400 * k ≤ q * k = mul-le-mul many (omega arith) in
      let less : k * m ≤ k * 400 = mul-le-mul (omega arith) h.most in
      omega (arith, more, less, h.enough, h.whole, some)
]

pub record HasWidths (q r : ℕ) : Type 0 where
  pub least : 6 ≤ q
  pub most : q ≤ 400
  pub more : 0 < r → q + 1 ≤ 400

pub widths : (tech : Technology) (d : Device) → IsTechnology tech → 6 ≤ d.width → 6 * d.fingers ≤ d.width → HasWidths (d.width / count_of tech d) (d.width % count_of tech d)
widths tech d limits units asked =
    let positive : 0 < count_of tech d = count_positive tech d limits (omega (arith, units)) in
    let shares : AreShares d.width (widest tech d.row) (count_of tech d) (d.width / count_of tech d) (d.width % count_of tech d) = record {
      most = most_widest tech d.row limits;
      units = six_units tech d limits units asked;
      enough = enough tech d limits;
      whole = div-add-mod' d.width (count_of tech d);
      rest = mod-lt d.width positive;
    } in
    record {
      least = share_least _ _ _ _ _ shares;
      most = share_most _ _ _ _ _ shares;
      more = share_more _ _ _ _ _ shares;
    }
