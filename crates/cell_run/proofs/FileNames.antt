-- The names of the files of an end: none is that of another one.
use Rattle.std.proofs.Common.{ℕ, zero, suc, ◌≡◌, ◌≢◌, ◌⊎◌, ◌==◌, Bool, true, false, if◌then◌else◌, List, [], ◌∷◌, ◌++◌, take, codes, map, length, length-append, inl, inr, refl, sym, ap, arith}
use Rattle.std.specs.Prelude.{All, get_or}
use Rattle.std.proofs.lemmas.List.{append_cancel_left}
use Rattle.std.proofs.lemmas.List.Elements.{All-cons, All-head, All-nil, All-tail, All-take}
use Rattle.spice_net.specs.declared.subckt.Subckt.{Subckt}
use Rattle.track_log.specs.declared.certificate.TrackCertificate.{TrackCertificate}
use Rattle.call_words.specs.declared.evidence.Evidence.{Evidence}
use Rattle.call_words.specs.declared.evidence.Evidence.TheVariants.{Log, Trails}
use Rattle.cell_commands.specs.Low.{track_files, tracks_text}
use Rattle.cell_inputs.specs.declared.style.Wiring.{Wiring}
use Rattle.cell_run.specs.Created.{AreDistinct}
use Rattle.cell_run.specs.Evidence.{evidence_name}
use Rattle.cell_run.specs.Origin.{Origin, Search, File, Low, cell_files, low_files}

-- ---- two names

-- the evidence's name ends with more letters than the others
pub evidence_apart : (evidence : Evidence) (out last : List ℕ) → length last ≡ 4 → evidence_name evidence out ≢ out ++ last
evidence_apart Log out last four e =
    let five : length (codes ".clog") ≡ 5 = refl in
    absurd (omega (arith, five, four, ap (λ (name : List ℕ). length name) e, length-append out (codes ".clog"), length-append out last))
evidence_apart Trails out last four e =
    let seven : length (codes ".ctrail") ≡ 7 = refl in
    absurd (omega (arith, seven, four, ap (λ (name : List ℕ). length name) e, length-append out (codes ".ctrail"), length-append out last))

-- so does the name of the certificate of tracks
track_apart : (out last : List ℕ) → length last ≡ 4 → out ++ codes ".ctrack" ≢ out ++ last
track_apart out last four e =
    let seven : length (codes ".ctrack") ≡ 7 = refl in
    absurd (omega (arith, seven, four, ap (λ (name : List ℕ). length name) e, length-append out (codes ".ctrack"), length-append out last))

-- it ends otherwise than that of the evidence
evidence_is_no_track : (evidence : Evidence) (out : List ℕ) → evidence_name evidence out ≢ out ++ codes ".ctrack"
evidence_is_no_track Log out e =
    let five : length (codes ".clog") ≡ 5 = refl in
    let seven : length (codes ".ctrack") ≡ 7 = refl in
    absurd (omega (arith, five, seven, ap (λ (name : List ℕ). length name) e, length-append out (codes ".clog"), length-append out (codes ".ctrack")))
evidence_is_no_track Trails out e =
    let same : codes ".ctrail" ≡ codes ".ctrack" = append_cancel_left out (codes ".ctrail") (codes ".ctrack") e in
    let i_is_c : 105 ≡ 99 = ap (λ (name : List ℕ). get_or name 5 0) same in
    absurd (omega (arith, i_is_c))

gds_is_no_lef : (out : List ℕ) → out ++ codes ".gds" ≢ out ++ codes ".lef"
gds_is_no_lef out e =
    let same : codes ".gds" ≡ codes ".lef" = append_cancel_left out (codes ".gds") (codes ".lef") e in
    let g_is_l : 103 ≡ 108 = ap (λ (name : List ℕ). get_or name 1 0) same in
    absurd (omega (arith, g_is_l))

-- ---- lists of names

pub distinct_front : (count : ℕ) (names : List (List ℕ)) → AreDistinct names → AreDistinct (take count names)
distinct_front zero names h = tt
distinct_front (suc count) [] h = tt
distinct_front (suc count) (name ∷ names) h = (All-take (λ (other : List ℕ). other ≢ name) count names h.0, distinct_front count names h.1)

pub distinct_one : (name : List ℕ) → AreDistinct (name ∷ [])
distinct_one name = (All-nil (λ (other : List ℕ). other ≢ name), tt)

pub distinct_two : (out : List ℕ) → AreDistinct ((out ++ codes ".gds") ∷ (out ++ codes ".lef") ∷ [])
distinct_two out = (
  All-cons (λ (other : List ℕ). other ≢ out ++ codes ".gds") (out ++ codes ".lef") [] (λ e. gds_is_no_lef out (sym e)) (All-nil (λ (other : List ℕ). other ≢ out ++ codes ".gds")),
  distinct_one (out ++ codes ".lef"),
)

-- a name that is that of no drawing
no_drawing : (name out : List ℕ) → name ≢ out ++ codes ".gds" → name ≢ out ++ codes ".lef" → All (λ (other : List ℕ). other ≢ name) ((out ++ codes ".gds") ∷ (out ++ codes ".lef") ∷ [])
no_drawing name out no_gds no_lef =
    All-cons (λ (other : List ℕ). other ≢ name) (out ++ codes ".gds") ((out ++ codes ".lef") ∷ []) (λ e. no_gds (sym e))
    (All-cons (λ (other : List ℕ). other ≢ name) (out ++ codes ".lef") [] (λ e. no_lef (sym e)) (All-nil (λ (other : List ℕ). other ≢ name)))

pub distinct_three : (evidence : Evidence) (out : List ℕ) → AreDistinct (evidence_name evidence out ∷ (out ++ codes ".gds") ∷ (out ++ codes ".lef") ∷ [])
distinct_three evidence out = (
  no_drawing (evidence_name evidence out) out (evidence_apart evidence out (codes ".gds") refl) (evidence_apart evidence out (codes ".lef") refl),
  distinct_two out,
)

distinct_four : (evidence : Evidence) (out : List ℕ) → AreDistinct (evidence_name evidence out ∷ (out ++ codes ".ctrack") ∷ (out ++ codes ".gds") ∷ (out ++ codes ".lef") ∷ [])
distinct_four evidence out = (
  All-cons (λ (other : List ℕ). other ≢ evidence_name evidence out) (out ++ codes ".ctrack") ((out ++ codes ".gds") ∷ (out ++ codes ".lef") ∷ []) (λ e. evidence_is_no_track evidence out (sym e)) (distinct_three evidence out).0,
  (no_drawing (out ++ codes ".ctrack") out (track_apart out (codes ".gds") refl) (track_apart out (codes ".lef") refl), distinct_two out),
)

both_evident : (evidence : Evidence) (out : List ℕ) → AreDistinct (evidence_name evidence out ∷ (out ++ codes ".ctrack") ∷ [])
both_evident evidence out = (
  All-cons (λ (other : List ℕ). other ≢ evidence_name evidence out) (out ++ codes ".ctrack") [] (λ e. evidence_is_no_track evidence out (sym e)) (All-nil (λ (other : List ℕ). other ≢ evidence_name evidence out)),
  distinct_one (out ++ codes ".ctrack"),
)

-- ---- files by their names

abbrev pub first_of : List ℕ × List ℕ → List ℕ
first_of file = file.0

-- a name that is none of theirs
pub apart_of : (name : List ℕ) (listed : List (List ℕ × List ℕ)) → All (λ (other : List ℕ). other ≢ name) (map first_of listed) → All (λ (file : List ℕ × List ℕ). name ≢ file.0) listed
apart_of name [] h = All-nil (λ (file : List ℕ × List ℕ). name ≢ file.0)
apart_of name (file ∷ listed) h =
    All-cons (λ (other : List ℕ × List ℕ). name ≢ other.0) file listed (λ e. All-head (λ (other : List ℕ). other ≢ name) file.0 (map first_of listed) h (sym e))
    (apart_of name listed (All-tail (λ (other : List ℕ). other ≢ name) file.0 (map first_of listed) h))

-- ---- the files of the lowest row

-- the certificate of tracks has one file, or none
track_cases : (wiring : Wiring) (cell : Subckt) (out : List ℕ) (tracks : TrackCertificate) → (track_files wiring cell out tracks ≡ []) ⊎ (track_files wiring cell out tracks ≡ (out ++ codes ".ctrack", tracks_text wiring cell tracks) ∷ [])
track_cases wiring cell out tracks = one_of (tracks.tracks == 0) [] ((out ++ codes ".ctrack", tracks_text wiring cell tracks) ∷ [])
  where
    one_of : (none : Bool) (xs ys : List (List ℕ × List ℕ)) → ((if none then xs else ys) ≡ xs) ⊎ ((if none then xs else ys) ≡ ys)
    one_of true xs ys = inl refl
    one_of false xs ys = inr refl

-- with the drawing's files, whatever certificate of tracks is among them
with_drawing : (evidence : Evidence) (out text bytes summary more : List ℕ) (listed : List (List ℕ × List ℕ)) → (listed ≡ []) ⊎ (listed ≡ (out ++ codes ".ctrack", more) ∷ []) → AreDistinct (map first_of ((evidence_name evidence out, text) ∷ listed ++ cell_files out bytes summary))
with_drawing evidence out text bytes summary more listed (inl none) = rw none (distinct_three evidence out)
with_drawing evidence out text bytes summary more listed (inr one) = rw one (distinct_four evidence out)

without_drawing : (evidence : Evidence) (out text more : List ℕ) (listed : List (List ℕ × List ℕ)) → (listed ≡ []) ⊎ (listed ≡ (out ++ codes ".ctrack", more) ∷ []) → AreDistinct (map first_of ((evidence_name evidence out, text) ∷ listed))
without_drawing evidence out text more listed (inl none) = rw none (distinct_one (evidence_name evidence out))
without_drawing evidence out text more listed (inr one) = rw one (both_evident evidence out)

-- ---- the files of a row, by where it comes from

-- the files of its evidence, which are made of a search
abbrev pub told_files : Origin → Subckt → List ℕ → List ℕ → List (List ℕ × List ℕ)
told_files (Search evidence) cell out text = (evidence_name evidence out, text) ∷ []
told_files (File evidence given) cell out text = []
told_files (Low evidence wiring tracks) cell out text = low_files evidence wiring tracks cell out text

pub distinct_drawn : (origin : Origin) (cell : Subckt) (out text bytes summary : List ℕ) → AreDistinct (map first_of (told_files origin cell out text ++ cell_files out bytes summary))
distinct_drawn (Search evidence) cell out text bytes summary = distinct_three evidence out
distinct_drawn (File evidence given) cell out text bytes summary = distinct_two out
distinct_drawn (Low evidence wiring tracks) cell out text bytes summary =
    with_drawing evidence out text bytes summary (tracks_text wiring cell tracks) (track_files wiring cell out tracks) (track_cases wiring cell out tracks)

pub distinct_alone : (origin : Origin) (cell : Subckt) (out text : List ℕ) → AreDistinct (map first_of (told_files origin cell out text))
distinct_alone (Search evidence) cell out text = distinct_one (evidence_name evidence out)
distinct_alone (File evidence given) cell out text = tt
distinct_alone (Low evidence wiring tracks) cell out text =
    without_drawing evidence out text (tracks_text wiring cell tracks) (track_files wiring cell out tracks) (track_cases wiring cell out tracks)
