-- What is rejected where nets may turn is not accepted.
use Rattle.std.specs.Prelude.{ℕ, ◌≡◌, ◌≢◌, List, [], None, Ok}
use Rattle.std.proofs.Common.{refl, sym, subst, inl, inr}
use Rattle.cell_num.specs.declared.finger.Row.{Row}
use Rattle.cell_num.specs.declared.net.Pins.{Pins}
use Rattle.row_state.specs.declared.kind.Kinds.{Kinds}
use Rattle.row_state.specs.declared.state.State.{State}
use Rattle.row_state.specs.Start.{AreSomeKinds}
use Rattle.bound_log.specs.Fits.{IsLogName}
use Rattle.track_ways.specs.declared.lemma.TrackLemma.{TrackLemma}
use Rattle.track_log.specs.declared.certificate.Course.TheVariants as course
use Rattle.track_log.specs.declared.certificate.TrackCertificate.{TrackCertificate}
use Rattle.track_log.specs.Reading.{certificate_by}
use Rattle.track_log.proofs.Only.{read_one_by}
use Rattle.track_log.proofs.Whole.{refused_by}
use Rattle.track_check.specs.declared.accept.TracksProved.{TracksProved}
use Rattle.track_check.specs.declared.rejected.TextRejected.{TextRejected}
use Rattle.track_check.specs.declared.rejected.TextRejected.TheVariants as because
use Rattle.turn_check.specs.Turning.{IsFirstTurn, IsTurnAccepted, IsTurnCertified, IsTurnWithoutStart, IsUnjustifiedTurn, RejectsTurn}

some_lemma : TrackLemma
some_lemma = record { state = record { p_left = []; n_left = []; p_end = None; n_end = None }; gaps = 0; tracks = [] }

first_not : (value : Row → State → Kinds → ℕ) (pins : Pins) (k : Kinds) (c : TrackCertificate) (at : ℕ) →
    IsFirstTurn value pins k c at → IsTurnCertified value pins k c → ⊥
first_not value pins k c at (inl (some, first)) all = some all.cycles
first_not value pins k c at (inr (none, first)) all =
    first.unjustified some_lemma (all.certifies.justified at some_lemma first.within)

-- the certificate that is accepted is the one that is read
same_read : (value : Row → State → Kinds → ℕ) (pins : Pins) (k : Kinds) (name bytes : List ℕ) (proved : TracksProved)
    (c : TrackCertificate) → IsLogName name → AreSomeKinds k → certificate_by course.Turning bytes name k ≡ Ok c →
    (right : IsTurnAccepted value pins k name bytes proved) → right.certificate ≡ c
same_read value pins k name bytes proved c is_name some read right =
    read_one_by course.Turning bytes name k c right.certificate is_name some read right.fits (sym right.text)

unjustified_not : (value : Row → State → Kinds → ℕ) (pins : Pins) (k : Kinds) (name bytes : List ℕ) (line : ℕ)
    (proved : TracksProved) → IsLogName name → AreSomeKinds k → IsUnjustifiedTurn value pins k name bytes line →
    IsTurnAccepted value pins k name bytes proved → ⊥
unjustified_not value pins k name bytes line proved is_name some wrong right =
    let same : right.certificate ≡ wrong.certificate =
    same_read value pins k name bytes proved wrong.certificate is_name some wrong.read right in
    first_not value pins k wrong.certificate wrong.at wrong.first (subst (IsTurnCertified value pins k) same right.certified)

start_not : (value : Row → State → Kinds → ℕ) (pins : Pins) (k : Kinds) (name bytes : List ℕ) (proved : TracksProved) →
    IsLogName name → AreSomeKinds k → IsTurnWithoutStart value pins k name bytes →
    IsTurnAccepted value pins k name bytes proved → ⊥
start_not value pins k name bytes proved is_name some wrong right =
    let same : right.certificate ≡ wrong.certificate =
    same_read value pins k name bytes proved wrong.certificate is_name some wrong.read right in
    let all : IsTurnCertified value pins k wrong.certificate = subst (IsTurnCertified value pins k) same right.certified in
    wrong.none.whole all.certifies.whole

pub not_accepted : (value : Row → State → Kinds → ℕ) (pins : Pins) (k : Kinds) (name bytes : List ℕ)
    (cause : TextRejected) → IsLogName name → AreSomeKinds k → cause ≢ because.NoMemory →
    RejectsTurn value pins k name bytes cause → (proved : TracksProved) →
    IsTurnAccepted value pins k name bytes proved → ⊥
not_accepted value pins k name bytes (because.Text fault) is_name some other h proved right = refused_by course.Turning bytes name k fault right.certificate is_name some h right.fits (sym right.text)
not_accepted value pins k name bytes (because.Unjustified line) is_name some other h proved right = unjustified_not value pins k name bytes line proved is_name some h right
not_accepted value pins k name bytes because.NoStart is_name some other h proved right = start_not value pins k name bytes proved is_name some h right
not_accepted value pins k name bytes because.NoMemory is_name some other h proved right = other refl
