-- Only the text of a certificate that fits is read.
use Rattle.std.specs.Prelude.{ℕ, ◌≡◌, ◌<◌, ◌+◌, ◌==◌, ◌&&◌, Bool, true, false, List, [], ◌∷◌, ◌++◌, Option, Some, None, Result, Ok, Err, All, length, codes, decimal}
use Rattle.std.proofs.Common.{refl, sym, ap, subst, arith, ◌∙◌, inl, inr}
use Rattle.std.specs.List.{flat_map}
use Rattle.std.proofs.lemmas.Bool.{and_parts, eqb-true}
use Rattle.std.proofs.lemmas.List.{append_assoc}
use Rattle.std.proofs.lemmas.List.Elements.{All-cons, All-nil}
use Rattle.cell_num.specs.Steps.{◌>>=◌, require, or_fault}
use Rattle.row_state.specs.declared.kind.Kinds.{Kinds}
use Rattle.row_state.specs.Start.{AreSomeKinds}
use Rattle.log_lines.specs.Words.{is_word, words_in}
use Rattle.log_lines.specs.Lines.{behind, lines_in}
use Rattle.log_lines.proofs.Numbers.{chosen, same_words}
use Rattle.log_lines.proofs.Splits.{bytes_again, fed, lines_text}
use Rattle.bound_log.specs.declared.fault.LogFault.TheVariants as fault
use Rattle.bound_log.specs.Fits.{IsLogName}
use Rattle.bound_log.specs.Reading.{end_at}
use Rattle.bound_log.specs.Text.{gaps_line}
use Rattle.bound_log.proofs.Only.{err-ok, line_of_words, same_Ok, text_cons}
use Rattle.row_cycles.specs.declared.lemma.CycleLemma.{CycleLemma}
use Rattle.row_cycles.specs.Fits.{CycleFits}
use Rattle.track_ways.specs.declared.lemma.TrackLemma.{TrackLemma}
use Rattle.track_log.specs.declared.certificate.Course.{Course}
use Rattle.track_log.specs.declared.certificate.Course.TheVariants as course
use Rattle.track_log.specs.declared.certificate.TrackCertificate.{TrackCertificate}
use Rattle.track_log.specs.Fits.{CertificateFits, LemmaFits}
use Rattle.track_log.specs.Line.{count_in, cycle_in, gaps_in, lemma_in}
use Rattle.track_log.specs.Reading.{begun_by, certificate_by, certificate_of, count_at, cycles_at, gaps_at, lemmas_at, named_at, text_at}
use Rattle.track_log.specs.Text.{certificate_text, certificate_text_by, cycle_line, lemma_line, tracks_line, version_line_by}
use Rattle.track_log.proofs.Fronts.{without_cycles}
use Rattle.track_log.proofs.Whole.{read_again_by, text_apart}
use Rattle.track_log.proofs.Words.{count_joined, count_only, cycle_joined, cycle_only, cycle_words, gaps_joined, gaps_only, lemma_joined, lemma_only, lemma_words}

bound_ok : {A B E : Type 0} (r : Result A E) (f : A → Result B E) (b : B) → (r >>= f) ≡ Ok b → (a : A) × (r ≡ Ok a) × (f a ≡ Ok b)
bound_ok (Ok a) f b h = (a, refl, h)
bound_ok (Err e) f b h = absurd (err-ok e b h)

required : {B E : Type 0} (t : Bool) (e : E) (f : Unit {0} → Result B E) (b : B) → (require t e >>= f) ≡ Ok b → (t ≡ true) × (f tt ≡ Ok b)
required true e f b h = (refl, h)
required false e f b h = absurd (err-ok e b h)

require_ok : {E : Type 0} (t : Bool) (e : E) (u : Unit {0}) → require t e ≡ Ok u → t ≡ true
require_ok true e u h = refl
require_ok false e u h = absurd (err-ok e u h)

there : {A E : Type 0} (o : Option A) (e : E) (a : A) → or_fault o e ≡ Ok a → o ≡ Some a
there (Some b) e a h = ap Some (same_Ok b a h)
there None e a h = absurd (err-ok e a h)

no_more : {X : Type 0} (xs : List X) → (length xs == 0) ≡ true → xs ≡ []
no_more [] h = refl
no_more (x ∷ xs) h = absurd (omega (arith, eqb-true (length (x ∷ xs)) 0 h))

-- a line before others
before : (line : List ℕ) (lines : List (List ℕ)) (rest written later : List ℕ) → fed line ≡ written → lines_text lines rest ≡ later → lines_text (line ∷ lines) rest ≡ written ++ later
before line lines rest written later here behind =
    text_cons line lines rest ∙ (ap (λ (bs : List ℕ). bs ++ lines_text lines rest) here ∙ ap (λ (bs : List ℕ). written ++ bs) behind)

-- ---- lemmas

end_only : (n : ℕ) (lines : List (List ℕ)) (rest : List ℕ) (u : Unit {0}) → end_at n lines rest ≡ Ok u → lines_text lines rest ≡ codes "end\n"
unfolding lines_text
end_only n [] rest u h = absurd (err-ok fault.Cut u h)
end_only n (line ∷ lines) rest u h =
    let one = required (is_word line (codes "end")) (fault.Line n) _ u h in
    let last : (length lines == 0 && length rest == 0) ≡ true = require_ok (length lines == 0 && length rest == 0) (fault.Line (n + 1)) u one.1 in
    let both : ((length lines == 0) ≡ true) × ((length rest == 0) ≡ true) = and_parts _ _ last in
    rw (same_words line (codes "end") one.0, no_more lines both.0, no_more rest both.1) refl

-- the lines are those of the lemmas, and `end`
abbrev AreLines : Kinds → List (List ℕ) → List ℕ → List TrackLemma → Type 0
AreLines k lines rest lemmas = (lines_text lines rest ≡ flat_map lemma_line lemmas ++ codes "end\n") × All (LemmaFits k) lemmas

lemma_before : (k : Kinds) (line : List ℕ) (lines : List (List ℕ)) (rest : List ℕ) (lemma : TrackLemma) (lemmas : List TrackLemma) → (words_in line ≡ codes "lemma" ∷ lemma_words lemma) × LemmaFits k lemma → AreLines k lines rest lemmas → AreLines k (line ∷ lines) rest (lemma ∷ lemmas)
lemma_before k line lines rest lemma lemmas one later =
    let here : fed line ≡ lemma_line lemma = line_of_words line (codes "lemma" ∷ lemma_words lemma) one.0 ∙ lemma_joined lemma in
    (before line lines rest (lemma_line lemma) _ here later.0 ∙ sym (append_assoc (lemma_line lemma) (flat_map lemma_line lemmas) (codes "end\n")), All-cons (LemmaFits k) lemma lemmas one.1 later.1)

lemmas_only : (k : Kinds) (n : ℕ) (lines : List (List ℕ)) (rest : List ℕ) (lemmas : List TrackLemma) → AreSomeKinds k → lemmas_at k n lines rest ≡ Ok lemmas → AreLines k lines rest lemmas
unfolding lemmas_at
lemmas_only k n [] rest lemmas some h = absurd (err-ok fault.Cut lemmas h)
lemmas_only k n (line ∷ lines) rest lemmas some h =
    elim (chosen (is_word line (codes "end")) _ _ _ h) [
      | inl y ↦
          let done = bound_ok (end_at n (line ∷ lines) rest) (λ _. Ok []) lemmas y.1 in
          subst (AreLines k (line ∷ lines) rest) (same_Ok [] lemmas done.2) (end_only n (line ∷ lines) rest done.0 done.1, All-nil (LemmaFits k))
      | inr other ↦
          let first = bound_ok (or_fault (lemma_in k (words_in line)) (fault.Line n)) _ lemmas other.1 in
          let later = bound_ok (lemmas_at k (n + 1) lines rest) _ lemmas first.2 in
          let one = lemma_only k (words_in line) first.0 some (there (lemma_in k (words_in line)) (fault.Line n) first.0 first.1) in
          subst (AreLines k (line ∷ lines) rest) (same_Ok (first.0 ∷ later.0) lemmas later.2)
          (lemma_before k line lines rest first.0 later.0 one (lemmas_only k (n + 1) lines rest later.0 some later.1))
    ]

-- ---- the whole certificate

-- the text of the last lines
abbrev rest_text : TrackCertificate → List ℕ
rest_text c = flat_map cycle_line c.cycles ++ (flat_map lemma_line c.lemmas ++ codes "end\n")

-- the lines are those of the certificate's lemmas, and `end`
abbrev AreRest : ℕ → ℕ → Kinds → List (List ℕ) → List ℕ → TrackCertificate → Type 0
AreRest gaps tracks k lines rest c =
    (lines_text lines rest ≡ rest_text c) × All (CycleFits k) c.cycles × All (LemmaFits k) c.lemmas × (c.gaps ≡ gaps) × (c.tracks ≡ tracks)

-- the first of the lines is one of a lemma on cycles, or the lemmas on tracks begin there
rest_read : (gaps tracks : ℕ) (k : Kinds) (n : ℕ) (line : List ℕ) (lines : List (List ℕ)) (rest : List ℕ) (c : TrackCertificate) (o : Option CycleLemma) → AreSomeKinds k → cycle_in k (words_in line) ≡ o → begun_by o (cycles_at gaps tracks k (n + 1) lines rest) (without_cycles gaps tracks (lemmas_at k n (line ∷ lines) rest)) ≡ Ok c → ((later : TrackCertificate) → cycles_at gaps tracks k (n + 1) lines rest ≡ Ok later → AreRest gaps tracks k lines rest later) → AreRest gaps tracks k (line ∷ lines) rest c
rest_read gaps tracks k n line lines rest c None some is h more =
    let lemmas = bound_ok (lemmas_at k n (line ∷ lines) rest) _ c h in
    let later = lemmas_only k n (line ∷ lines) rest lemmas.0 some lemmas.1 in
    subst (AreRest gaps tracks k (line ∷ lines) rest) (same_Ok (record { gaps = gaps; tracks = tracks; cycles = []; lemmas = lemmas.0 }) c lemmas.2)
    (later.0, All-nil (CycleFits k), later.1, refl, refl)
rest_read gaps tracks k n line lines rest c (Some cycle) some is h more =
    let later = bound_ok (cycles_at gaps tracks k (n + 1) lines rest) _ c h in
    let others = more later.0 later.1 in
    let one = cycle_only k (words_in line) cycle some is in
    let here : fed line ≡ cycle_line cycle = line_of_words line (codes "cycle" ∷ cycle_words cycle) one.0 ∙ cycle_joined cycle in
    subst (AreRest gaps tracks k (line ∷ lines) rest) (same_Ok (record { gaps = later.0.gaps; tracks = later.0.tracks; cycles = cycle ∷ later.0.cycles; lemmas = later.0.lemmas }) c later.2) (
      before line lines rest (cycle_line cycle) (rest_text later.0) here others.0 ∙ sym (append_assoc (cycle_line cycle) (flat_map cycle_line later.0.cycles) (flat_map lemma_line later.0.lemmas ++ codes "end\n")),
      All-cons (CycleFits k) cycle later.0.cycles one.1 others.1,
      others.2,
      others.3,
      others.4,
    )

cycles_only : (gaps tracks : ℕ) (k : Kinds) (n : ℕ) (lines : List (List ℕ)) (rest : List ℕ) (c : TrackCertificate) → AreSomeKinds k → cycles_at gaps tracks k n lines rest ≡ Ok c → AreRest gaps tracks k lines rest c
unfolding cycles_at
cycles_only gaps tracks k n [] rest c some h = absurd (err-ok fault.Cut c h)
cycles_only gaps tracks k n (line ∷ lines) rest c some h =
    rest_read gaps tracks k n line lines rest c (cycle_in k (words_in line)) some refl h (λ later is. cycles_only gaps tracks k (n + 1) lines rest later some is)

count_read : (gaps : ℕ) (k : Kinds) (lines : List (List ℕ)) (rest : List ℕ) (c : TrackCertificate) → AreSomeKinds k → gaps < 64 → count_at gaps k lines rest ≡ Ok c → (lines_text lines rest ≡ tracks_line c.tracks ++ rest_text c) × CertificateFits k c × (c.gaps ≡ gaps)
count_read gaps k [] rest c some few h = absurd (err-ok fault.Cut c h)
count_read gaps k (line ∷ lines) rest c some few h =
    let first = bound_ok (or_fault (count_in (words_in line)) (fault.Line 4)) _ c h in
    let spelled = count_only (words_in line) first.0 (there (count_in (words_in line)) (fault.Line 4) first.0 first.1) in
    let later = cycles_only gaps first.0 k 5 lines rest c some first.2 in
    let here : fed line ≡ tracks_line c.tracks = line_of_words line (codes "tracks" ∷ decimal first.0 ∷ []) spelled.0 ∙ (count_joined first.0 ∙ ap tracks_line (sym later.4)) in (
      before line lines rest (tracks_line c.tracks) (rest_text c) here later.0,
      record { gaps = omega (arith, few, later.3); some = omega (arith, spelled.1, later.4); few = omega (arith, spelled.2, later.4); cycles = later.1; lemmas = later.2 },
      later.3,
    )

gaps_read : (k : Kinds) (lines : List (List ℕ)) (rest : List ℕ) (c : TrackCertificate) → AreSomeKinds k → gaps_at k lines rest ≡ Ok c → (lines_text lines rest ≡ gaps_line c.gaps ++ (tracks_line c.tracks ++ rest_text c)) × CertificateFits k c
gaps_read k [] rest c some h = absurd (err-ok fault.Cut c h)
gaps_read k (line ∷ lines) rest c some h =
    let first = bound_ok (or_fault (gaps_in (words_in line)) (fault.Line 3)) _ c h in
    let spelled = gaps_only (words_in line) first.0 (there (gaps_in (words_in line)) (fault.Line 3) first.0 first.1) in
    let later = count_read first.0 k lines rest c some spelled.1 first.2 in
    let here : fed line ≡ gaps_line c.gaps = line_of_words line (codes "gaps" ∷ decimal first.0 ∷ []) spelled.0 ∙ (gaps_joined first.0 ∙ ap gaps_line (sym later.2)) in
    (before line lines rest (gaps_line c.gaps) _ here later.0, later.1)

named_read : (name : List ℕ) (k : Kinds) (lines : List (List ℕ)) (rest : List ℕ) (c : TrackCertificate) → AreSomeKinds k → named_at name k lines rest ≡ Ok c → (lines_text lines rest ≡ fed (codes "cell " ++ name) ++ (gaps_line c.gaps ++ (tracks_line c.tracks ++ rest_text c))) × CertificateFits k c
named_read name k [] rest c some h = absurd (err-ok fault.Cut c h)
named_read name k (line ∷ lines) rest c some h =
    let one = required (is_word line (codes "cell " ++ name)) fault.Cell _ c h in
    let later = gaps_read k lines rest c some one.1 in
    (before line lines rest (fed (codes "cell " ++ name)) _ (ap fed (same_words line (codes "cell " ++ name) one.0)) later.0, later.1)

text_read : (by : Course) (name : List ℕ) (k : Kinds) (lines : List (List ℕ)) (rest : List ℕ) (c : TrackCertificate) → AreSomeKinds k → text_at by name k lines rest ≡ Ok c → (lines_text lines rest ≡ certificate_text_by by name c) × CertificateFits k c
text_read by name k [] rest c some h = absurd (err-ok fault.Cut c h)
text_read by name k (line ∷ lines) rest c some h =
    let one = required (is_word line (version_line_by by)) fault.Version _ c h in
    let later = named_read name k lines rest c some one.1 in
    (before line lines rest (fed (version_line_by by)) _ (ap fed (same_words line (version_line_by by) one.0)) later.0 ∙ sym (text_apart by name c), later.1)

-- what is read fits, and its text is what was read
pub read_only : (by : Course) (bytes name : List ℕ) (k : Kinds) (c : TrackCertificate) → AreSomeKinds k → certificate_by by bytes name k ≡ Ok c → CertificateFits k c × (bytes ≡ certificate_text_by by name c)
unfolding certificate_by
read_only by bytes name k c some h =
    let read = text_read by name k (lines_in bytes) (behind bytes) c some h in
    (read.1, bytes_again bytes ∙ read.0)

-- no other certificate that fits has the text
pub read_one_by : (by : Course) (bytes name : List ℕ) (k : Kinds) (c other : TrackCertificate) → IsLogName name → AreSomeKinds k → certificate_by by bytes name k ≡ Ok c → CertificateFits k other → certificate_text_by by name other ≡ bytes → other ≡ c
read_one_by by bytes name k c other is_name some h fits same =
    same_Ok other c (sym (read_again_by by name k other is_name some fits) ∙ (ap (λ (t : List ℕ). certificate_by by t name k) same ∙ h))

-- the same where nets go straight
pub read_one : (bytes name : List ℕ) (k : Kinds) (c other : TrackCertificate) → IsLogName name → AreSomeKinds k → certificate_of bytes name k ≡ Ok c → CertificateFits k other → certificate_text name other ≡ bytes → other ≡ c
read_one = read_one_by course.Straight
