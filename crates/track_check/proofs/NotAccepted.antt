-- What is rejected is not accepted.
use Rattle.std.specs.Prelude.{ℕ, ◌≡◌, ◌≢◌, List, [], None, length}
use Rattle.std.proofs.Common.{ap, arith, refl, sym, subst, inl, inr}
use Rattle.cell_num.specs.declared.finger.Row.{Row}
use Rattle.cell_num.specs.declared.net.Pins.{Pins}
use Rattle.row_state.specs.declared.kind.Kinds.{Kinds}
use Rattle.row_state.specs.declared.state.State.{State}
use Rattle.row_state.specs.Start.{AreSomeKinds}
use Rattle.bound_log.specs.Fits.{IsLogName}
use Rattle.row_needs.specs.declared.need_bound.TheConstants.{MOST_LEFTOVERS}
use Rattle.row_needs.specs.declared.need_bound.NeedBound.{NeedBound}
use Rattle.row_needs.specs.Bound.{IsBoundOf, value_by}
use Rattle.row_needs.proofs.OneValue.{one_value}
use Rattle.row_cycles.specs.declared.lemma.CycleLemma.{CycleLemma}
use Rattle.row_cycles.specs.Certificate.{AreJustified}
use Rattle.row_cycles.specs.Refusal.{IsFirstUnjustified}
use Rattle.track_ways.specs.declared.lemma.TrackLemma.{TrackLemma}
use Rattle.track_log.specs.declared.certificate.TrackCertificate.{TrackCertificate}
use Rattle.track_log.proofs.Only.{read_one}
use Rattle.track_log.proofs.Whole.{refused}
use Rattle.track_check.specs.declared.accept.TracksProved.{TracksProved}
use Rattle.track_check.specs.declared.rejected.TextRejected.{TextRejected}
use Rattle.track_check.specs.declared.rejected.TextRejected.TheVariants as because
use Rattle.track_check.specs.Accepted.{AreAllJustified, CyclesFollow, HasStart, IsAccepted, IsFirstAt, IsUnjustifiedLine, IsWithoutStart, Rejects}

no_state : State
no_state = record { p_left = []; n_left = []; p_end = None; n_end = None }

-- all bounds of a cell say the same
cycle_not : (pins : Pins) (k : Kinds) (cycles : List CycleLemma) (at : ℕ) (b : NeedBound) → AreSomeKinds k → IsBoundOf MOST_LEFTOVERS k b → IsFirstUnjustified (value_by b) pins k cycles at → CyclesFollow pins k cycles → ⊥
cycle_not pins k cycles at b some of_k first (inl none) = absurd (omega (arith, first.within, ap (λ (xs : List CycleLemma). length xs) none))
cycle_not pins k cycles at b some of_k first (inr (other, other_of_k, justified)) =
    let d : CycleLemma = record { state = no_state; gaps = 0; above = [] } in
    let same : AreJustified (value_by b) pins k cycles = subst (λ value. AreJustified value pins k cycles) (one_value MOST_LEFTOVERS k other b some other_of_k of_k) justified in
    first.unjustified d (same at d first.within)

first_not : (value : Row → State → Kinds → ℕ) (pins : Pins) (k : Kinds) (c : TrackCertificate) (at : ℕ) → AreSomeKinds k → IsFirstAt value pins k c at → AreAllJustified value pins k c → ⊥
first_not value pins k c at some (inl (b, of_k, first)) all = cycle_not pins k c.cycles at b some of_k first all.cycles
first_not value pins k c at some (inr last) all =
    let d : TrackLemma = record { state = no_state; gaps = 0; tracks = [] } in
    last.first.unjustified d (all.lemmas last.place d last.first.within)

unjustified_not : (value : Row → State → Kinds → ℕ) (pins : Pins) (k : Kinds) (name bytes : List ℕ) (line : ℕ) (proved : TracksProved) → IsLogName name → AreSomeKinds k → IsUnjustifiedLine value pins k name bytes line → IsAccepted value pins k name bytes proved → ⊥
unjustified_not value pins k name bytes line proved is_name some wrong right =
    let same : right.certificate ≡ wrong.certificate = read_one bytes name k wrong.certificate right.certificate is_name some wrong.read right.fits (sym right.text) in
    let first : IsFirstAt value pins k right.certificate wrong.at = subst (λ (c : TrackCertificate). IsFirstAt value pins k c wrong.at) (sym same) wrong.first in
    first_not value pins k right.certificate wrong.at some first right.certifies.justified

start_not : (value : Row → State → Kinds → ℕ) (pins : Pins) (k : Kinds) (name bytes : List ℕ) (proved : TracksProved) → IsLogName name → AreSomeKinds k → IsWithoutStart value pins k name bytes → IsAccepted value pins k name bytes proved → ⊥
start_not value pins k name bytes proved is_name some wrong right =
    let same : right.certificate ≡ wrong.certificate = read_one bytes name k wrong.certificate right.certificate is_name some wrong.read right.fits (sym right.text) in
    wrong.none (subst (HasStart k) same right.certifies.whole)

pub not_accepted : (value : Row → State → Kinds → ℕ) (pins : Pins) (k : Kinds) (name bytes : List ℕ) (cause : TextRejected) → IsLogName name → AreSomeKinds k → cause ≢ because.NoMemory → Rejects value pins k name bytes cause → (proved : TracksProved) → IsAccepted value pins k name bytes proved → ⊥
not_accepted value pins k name bytes (because.Text fault) is_name some other h proved right = refused bytes name k fault right.certificate is_name some h right.fits (sym right.text)
not_accepted value pins k name bytes (because.Unjustified line) is_name some other h proved right = unjustified_not value pins k name bytes line proved is_name some h right
not_accepted value pins k name bytes because.NoStart is_name some other h proved right = start_not value pins k name bytes proved is_name some h right
not_accepted value pins k name bytes because.NoMemory is_name some other h proved right = other refl
