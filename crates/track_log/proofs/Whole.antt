-- The whole text of a certificate that fits is read again.
use Rattle.std.specs.Prelude.{ℕ, ◌≡◌, ◌≢◌, ◌+◌, ◌<◌, ◌≤◌, ◌==◌, false, List, [], ◌∷◌, ◌++◌, Some, None, Ok, Err, All, length, codes, decimal}
use Rattle.std.proofs.Common.{refl, sym, ap, arith, ◌∙◌}
use Rattle.std.specs.List.{flat_map, join_with_byte}
use Rattle.std.proofs.lemmas.Bool.{ne_eqb}
use Rattle.std.proofs.lemmas.List.{append_assoc, length-append}
use Rattle.std.proofs.lemmas.List.Elements.{All-append, All-cons, All-head, All-nil, All-tail}
use Rattle.row_state.specs.declared.kind.Kinds.{Kinds}
use Rattle.row_state.specs.Start.{AreSomeKinds}
use Rattle.log_lines.specs.Words.{is_word, words_in}
use Rattle.log_lines.specs.Lines.{behind, lines_in}
use Rattle.log_lines.proofs.Numbers.{is_same}
use Rattle.log_lines.proofs.Splits.{IsAbove, Lacks, above_lacks, fed, line_behind}
use Rattle.bound_log.specs.declared.fault.LogFault.{LogFault}
use Rattle.bound_log.specs.Fits.{IsLogName}
use Rattle.bound_log.specs.Text.{gaps_line}
use Rattle.bound_log.proofs.Again.{by_test, words_again, words_lack}
use Rattle.bound_log.proofs.Only.{err-ok}
use Rattle.bound_log.proofs.Whole.{fed_first}
use Rattle.row_cycles.specs.declared.lemma.CycleLemma.{CycleLemma}
use Rattle.row_cycles.specs.Fits.{CycleFits}
use Rattle.track_ways.specs.declared.lemma.TrackLemma.{TrackLemma}
use Rattle.track_log.specs.declared.certificate.Course.{Course}
use Rattle.track_log.specs.declared.certificate.Course.TheVariants as course
use Rattle.track_log.specs.declared.certificate.TrackCertificate.{TrackCertificate}
use Rattle.track_log.specs.Fits.{CertificateFits, LemmaFits}
use Rattle.track_log.specs.Line.{count_in, cycle_in, gaps_in, lemma_in}
use Rattle.track_log.specs.Reading.{certificate_by, certificate_of, count_at, course_at, course_of, cycles_at, gaps_at, lemmas_at, named_at, text_at}
use Rattle.track_log.specs.Text.{certificate_text, certificate_text_by, cycle_line, head_lines, lemma_line, tracks_line, version_line_by}
use Rattle.track_log.proofs.Fronts.{without_cycles}
use Rattle.track_log.proofs.Words.{count_above, count_again, count_joined, cycle_above, cycle_again, cycle_joined, cycle_words, fields_words, gaps_above, gaps_again, gaps_joined, lemma_above, lemma_again, lemma_joined, lemma_words, no_cycle}

fed_behind : (line text : List ℕ) → Lacks 10 line → behind (fed line ++ text) ≡ behind text
fed_behind line text lack = ap behind (append_assoc line (10 ∷ []) text) ∙ line_behind line text lack

-- ---- lemmas

lemma_step : (k : Kinds) (n : ℕ) (line : List ℕ) (lines : List (List ℕ)) (rest : List ℕ) (lemma : TrackLemma) (lemmas : List TrackLemma) → is_word line (codes "end") ≡ false → lemma_in k (words_in line) ≡ Some lemma → lemmas_at k (n + 1) lines rest ≡ Ok lemmas → lemmas_at k n (line ∷ lines) rest ≡ Ok (lemma ∷ lemmas)
unfolding lemmas_at
lemma_step k n line lines rest lemma lemmas other some later = rw (other, some, later) refl

end_again : (k : Kinds) (n : ℕ) → lemmas_at k n (lines_in (codes "end\n")) (behind (codes "end\n")) ≡ Ok []
unfolding lemmas_at lines_in behind
end_again k n = refl

not_end : (lemma : TrackLemma) → is_word (join_with_byte 32 (codes "lemma" ∷ lemma_words lemma)) (codes "end") ≡ false
unfolding fields_words
not_end lemma = refl

lemmas_front : (lemma : TrackLemma) (lemmas : List TrackLemma) (rest : List ℕ) → flat_map lemma_line (lemma ∷ lemmas) ++ rest ≡ fed (join_with_byte 32 (codes "lemma" ∷ lemma_words lemma)) ++ (flat_map lemma_line lemmas ++ rest)
lemmas_front lemma lemmas rest =
    append_assoc (lemma_line lemma) (flat_map lemma_line lemmas) rest ∙ ap (λ (bs : List ℕ). bs ++ (flat_map lemma_line lemmas ++ rest)) (sym (lemma_joined lemma))

lemmas_again : (k : Kinds) (n : ℕ) (lemmas : List TrackLemma) → AreSomeKinds k → All (LemmaFits k) lemmas → lemmas_at k n (lines_in (flat_map lemma_line lemmas ++ codes "end\n")) (behind (flat_map lemma_line lemmas ++ codes "end\n")) ≡ Ok lemmas
lemmas_again k n [] some h = end_again k n
lemmas_again k n (lemma ∷ lemmas) some h =
    let line = join_with_byte 32 (codes "lemma" ∷ lemma_words lemma) in
    let text = flat_map lemma_line lemmas ++ codes "end\n" in
    let fits : LemmaFits k lemma = All-head (LemmaFits k) lemma lemmas h in
    let above : All (IsAbove 32) (codes "lemma" ∷ lemma_words lemma) = lemma_above lemma in
    let lack : Lacks 10 line = words_lack (codes "lemma" ∷ lemma_words lemma) above in
    let whole : flat_map lemma_line (lemma ∷ lemmas) ++ codes "end\n" ≡ fed line ++ text = lemmas_front lemma lemmas (codes "end\n") in
    let words : lemma_in k (words_in line) ≡ Some lemma = ap (lemma_in k) (words_again (codes "lemma") (lemma_words lemma) above) ∙ lemma_again k lemma some fits in
    ap (λ (t : List ℕ). lemmas_at k n (lines_in t) (behind t)) whole
    ∙ (rw (fed_first line text lack, fed_behind line text lack) (lemma_step k n line (lines_in text) (behind text) lemma lemmas (not_end lemma) words (lemmas_again k (n + 1) lemmas some (All-tail (LemmaFits k) lemma lemmas h))))

-- ---- lemmas on cycles

cycle_step : (gaps tracks : ℕ) (k : Kinds) (n : ℕ) (line : List ℕ) (lines : List (List ℕ)) (rest : List ℕ) (cycle : CycleLemma) (c : TrackCertificate) → cycle_in k (words_in line) ≡ Some cycle → cycles_at gaps tracks k (n + 1) lines rest ≡ Ok c → cycles_at gaps tracks k n (line ∷ lines) rest ≡ Ok (record { gaps = c.gaps; tracks = c.tracks; cycles = cycle ∷ c.cycles; lemmas = c.lemmas })
unfolding cycles_at
cycle_step gaps tracks k n line lines rest cycle c some later = rw (some, later) refl

no_cycles : (gaps tracks : ℕ) (k : Kinds) (n : ℕ) (lines : List (List ℕ)) (rest line : List ℕ) (later : List (List ℕ)) → lines ≡ line ∷ later → cycle_in k (words_in line) ≡ None → cycles_at gaps tracks k n lines rest ≡ without_cycles gaps tracks (lemmas_at k n lines rest)
unfolding cycles_at
no_cycles gaps tracks k n lines rest line later is none = rw (is, none) refl

end_line : lines_in (codes "end\n") ≡ codes "end" ∷ []
unfolding lines_in
end_line = refl

-- the first line of the lemmas on tracks is not one of a lemma on cycles
lemmas_first : (k : Kinds) (lemmas : List TrackLemma) → (line : List ℕ) × (later : List (List ℕ)) × (lines_in (flat_map lemma_line lemmas ++ codes "end\n") ≡ line ∷ later) × (cycle_in k (words_in line) ≡ None)
lemmas_first k [] =
    let above : All (IsAbove 32) (codes "end" ∷ []) = All-cons (IsAbove 32) (codes "end") [] (by_test 32 (codes "end") refl) (All-nil (IsAbove 32)) in
    (codes "end", [], end_line, ap (cycle_in k) (words_again (codes "end") [] above))
lemmas_first k (lemma ∷ lemmas) =
    let line = join_with_byte 32 (codes "lemma" ∷ lemma_words lemma) in
    let text = flat_map lemma_line lemmas ++ codes "end\n" in
    let above : All (IsAbove 32) (codes "lemma" ∷ lemma_words lemma) = lemma_above lemma in
    let lack : Lacks 10 line = words_lack (codes "lemma" ∷ lemma_words lemma) above in (
      line,
      lines_in text,
      ap lines_in (lemmas_front lemma lemmas (codes "end\n")) ∙ fed_first line text lack,
      ap (cycle_in k) (words_again (codes "lemma") (lemma_words lemma) above) ∙ no_cycle k lemma,
    )

cycles_front : (cycle : CycleLemma) (cycles : List CycleLemma) (rest : List ℕ) → flat_map cycle_line (cycle ∷ cycles) ++ rest ≡ fed (join_with_byte 32 (codes "cycle" ∷ cycle_words cycle)) ++ (flat_map cycle_line cycles ++ rest)
cycles_front cycle cycles rest =
    append_assoc (cycle_line cycle) (flat_map cycle_line cycles) rest ∙ ap (λ (bs : List ℕ). bs ++ (flat_map cycle_line cycles ++ rest)) (sym (cycle_joined cycle))

cycles_again : (gaps tracks : ℕ) (k : Kinds) (n : ℕ) (cycles : List CycleLemma) (lemmas : List TrackLemma) → AreSomeKinds k → All (CycleFits k) cycles → All (LemmaFits k) lemmas → cycles_at gaps tracks k n (lines_in (flat_map cycle_line cycles ++ (flat_map lemma_line lemmas ++ codes "end\n"))) (behind (flat_map cycle_line cycles ++ (flat_map lemma_line lemmas ++ codes "end\n"))) ≡ Ok (record { gaps = gaps; tracks = tracks; cycles = cycles; lemmas = lemmas })
cycles_again gaps tracks k n [] lemmas some h g =
    let text = flat_map lemma_line lemmas ++ codes "end\n" in
    let first = lemmas_first k lemmas in
    no_cycles gaps tracks k n (lines_in text) (behind text) first.0 first.1 first.2 first.3 ∙ ap (without_cycles gaps tracks) (lemmas_again k n lemmas some g)
cycles_again gaps tracks k n (cycle ∷ cycles) lemmas some h g =
    let line = join_with_byte 32 (codes "cycle" ∷ cycle_words cycle) in
    let end = flat_map lemma_line lemmas ++ codes "end\n" in
    let text = flat_map cycle_line cycles ++ end in
    let fits : CycleFits k cycle = All-head (CycleFits k) cycle cycles h in
    let above : All (IsAbove 32) (codes "cycle" ∷ cycle_words cycle) = cycle_above cycle in
    let lack : Lacks 10 line = words_lack (codes "cycle" ∷ cycle_words cycle) above in
    let words : cycle_in k (words_in line) ≡ Some cycle = ap (cycle_in k) (words_again (codes "cycle") (cycle_words cycle) above) ∙ cycle_again k cycle some fits in
    ap (λ (t : List ℕ). cycles_at gaps tracks k n (lines_in t) (behind t)) (cycles_front cycle cycles end)
    ∙ (rw (fed_first line text lack, fed_behind line text lack) (cycle_step gaps tracks k n line (lines_in text) (behind text) cycle (record { gaps = gaps; tracks = tracks; cycles = cycles; lemmas = lemmas }) words (cycles_again gaps tracks k (n + 1) cycles lemmas some (All-tail (CycleFits k) cycle cycles h) g)))

-- ---- the lines before them

other_lack : (text : List ℕ) → All (λ byte. byte ≢ 10) text → Lacks 10 text
other_lack [] h = All-nil (λ b. (b == 10) ≡ false)
other_lack (b ∷ bs) h = All-cons (λ b. (b == 10) ≡ false) b bs (ne_eqb b 10 (All-head (λ byte. byte ≢ 10) b bs h)) (other_lack bs (All-tail (λ byte. byte ≢ 10) b bs h))

count_step : (gaps tracks : ℕ) (k : Kinds) (line : List ℕ) (lines : List (List ℕ)) (rest : List ℕ) → count_in (words_in line) ≡ Some tracks → count_at gaps k (line ∷ lines) rest ≡ cycles_at gaps tracks k 5 lines rest
count_step gaps tracks k line lines rest some = rw some refl

gaps_step : (gaps : ℕ) (k : Kinds) (line : List ℕ) (lines : List (List ℕ)) (rest : List ℕ) → gaps_in (words_in line) ≡ Some gaps → gaps_at k (line ∷ lines) rest ≡ count_at gaps k lines rest
gaps_step gaps k line lines rest some = rw some refl

named_step : (name : List ℕ) (k : Kinds) (line : List ℕ) (lines : List (List ℕ)) (rest : List ℕ) → line ≡ codes "cell " ++ name → named_at name k (line ∷ lines) rest ≡ gaps_at k lines rest
named_step name k line lines rest is = rw (is_same line (codes "cell " ++ name) is) refl

counted_again : (k : Kinds) (c : TrackCertificate) → AreSomeKinds k → CertificateFits k c → count_at c.gaps k (lines_in (tracks_line c.tracks ++ (flat_map cycle_line c.cycles ++ (flat_map lemma_line c.lemmas ++ codes "end\n")))) (behind (tracks_line c.tracks ++ (flat_map cycle_line c.cycles ++ (flat_map lemma_line c.lemmas ++ codes "end\n")))) ≡ Ok c
counted_again k c some fits =
    let line = join_with_byte 32 (codes "tracks" ∷ decimal c.tracks ∷ []) in
    let text = flat_map cycle_line c.cycles ++ (flat_map lemma_line c.lemmas ++ codes "end\n") in
    let above : All (IsAbove 32) (codes "tracks" ∷ decimal c.tracks ∷ []) = count_above c.tracks in
    let lack : Lacks 10 line = words_lack (codes "tracks" ∷ decimal c.tracks ∷ []) above in
    let words : count_in (words_in line) ≡ Some c.tracks = ap count_in (words_again (codes "tracks") (decimal c.tracks ∷ []) above) ∙ count_again c.tracks fits.some fits.few in
    ap (λ (l : List ℕ). count_at c.gaps k (lines_in (l ++ text)) (behind (l ++ text))) (sym (count_joined c.tracks))
    ∙ (rw (fed_first line text lack, fed_behind line text lack) (count_step c.gaps c.tracks k line (lines_in text) (behind text) words ∙ cycles_again c.gaps c.tracks k 5 c.cycles c.lemmas some fits.cycles fits.lemmas))

bounded_again : (k : Kinds) (c : TrackCertificate) → AreSomeKinds k → CertificateFits k c → gaps_at k (lines_in (gaps_line c.gaps ++ (tracks_line c.tracks ++ (flat_map cycle_line c.cycles ++ (flat_map lemma_line c.lemmas ++ codes "end\n"))))) (behind (gaps_line c.gaps ++ (tracks_line c.tracks ++ (flat_map cycle_line c.cycles ++ (flat_map lemma_line c.lemmas ++ codes "end\n"))))) ≡ Ok c
bounded_again k c some fits =
    let line = join_with_byte 32 (codes "gaps" ∷ decimal c.gaps ∷ []) in
    let text = tracks_line c.tracks ++ (flat_map cycle_line c.cycles ++ (flat_map lemma_line c.lemmas ++ codes "end\n")) in
    let above : All (IsAbove 32) (codes "gaps" ∷ decimal c.gaps ∷ []) = gaps_above c.gaps in
    let lack : Lacks 10 line = words_lack (codes "gaps" ∷ decimal c.gaps ∷ []) above in
    let words : gaps_in (words_in line) ≡ Some c.gaps = ap gaps_in (words_again (codes "gaps") (decimal c.gaps ∷ []) above) ∙ gaps_again c.gaps fits.gaps in
    ap (λ (l : List ℕ). gaps_at k (lines_in (l ++ text)) (behind (l ++ text))) (sym (gaps_joined c.gaps))
    ∙ (rw (fed_first line text lack, fed_behind line text lack) (gaps_step c.gaps k line (lines_in text) (behind text) words ∙ counted_again k c some fits))

-- the lines of a certificate, one after the other
pub text_apart : (by : Course) (name : List ℕ) (c : TrackCertificate) → certificate_text_by by name c ≡ fed (version_line_by by) ++ (fed (codes "cell " ++ name) ++ (gaps_line c.gaps ++ (tracks_line c.tracks ++ (flat_map cycle_line c.cycles ++ (flat_map lemma_line c.lemmas ++ codes "end\n")))))
text_apart by name c = apart (version_line_by by) name (gaps_line c.gaps) (tracks_line c.tracks) (flat_map cycle_line c.cycles) (flat_map lemma_line c.lemmas)
  where
    apart : (version cell gaps tracks cs ls : List ℕ) → (version ++ codes "\ncell " ++ cell ++ codes "\n") ++ gaps ++ tracks ++ cs ++ ls ++ codes "end\n" ≡ fed version ++ (fed (codes "cell " ++ cell) ++ (gaps ++ (tracks ++ (cs ++ (ls ++ codes "end\n")))))
    apart version cell gaps tracks cs ls = simp append_assoc

version_lacks : (by : Course) → Lacks 10 (version_line_by by)
version_lacks course.Straight = above_lacks 31 10 (version_line_by course.Straight) (omega arith) (by_test 31 (version_line_by course.Straight) refl)
version_lacks course.Turning = above_lacks 31 10 (version_line_by course.Turning) (omega arith) (by_test 31 (version_line_by course.Turning) refl)

version_step : (by : Course) (name : List ℕ) (k : Kinds) (line : List ℕ) (lines : List (List ℕ)) (rest : List ℕ) → line ≡ version_line_by by → text_at by name k (line ∷ lines) rest ≡ named_at name k lines rest
version_step by name k line lines rest is = rw (is_same line (version_line_by by) is) refl

-- what fits is read again
pub read_again_by : (by : Course) (name : List ℕ) (k : Kinds) (c : TrackCertificate) → IsLogName name → AreSomeKinds k → CertificateFits k c → certificate_by by (certificate_text_by by name c) name k ≡ Ok c
unfolding certificate_by
read_again_by by name k c is_name some fits =
    let cell = codes "cell " ++ name in
    let later = gaps_line c.gaps ++ (tracks_line c.tracks ++ (flat_map cycle_line c.cycles ++ (flat_map lemma_line c.lemmas ++ codes "end\n"))) in
    let version : Lacks 10 (version_line_by by) = version_lacks by in
    let front : Lacks 10 (codes "cell ") = above_lacks 31 10 (codes "cell ") (omega arith) (by_test 31 (codes "cell ") refl) in
    let named : Lacks 10 cell = All-append (λ b. (b == 10) ≡ false) (codes "cell ") name front (other_lack name is_name.line) in
    ap (λ (t : List ℕ). text_at by name k (lines_in t) (behind t)) (text_apart by name c)
    ∙ (rw (fed_first (version_line_by by) (fed cell ++ later) version, fed_behind (version_line_by by) (fed cell ++ later) version, fed_first cell later named, fed_behind cell later named)
    (version_step by name k (version_line_by by) (cell ∷ lines_in later) (behind later) refl
    ∙ (named_step name k cell (lines_in later) (behind later) refl ∙ bounded_again k c some fits)))

-- its first line names its course
course_first : (by : Course) (lines : List (List ℕ)) → course_at (version_line_by by ∷ lines) ≡ by
course_first course.Straight lines = refl
course_first course.Turning lines = refl

pub course_again : (by : Course) (name : List ℕ) (c : TrackCertificate) → course_of (certificate_text_by by name c) ≡ by
course_again by name c =
    let later = fed (codes "cell " ++ name) ++ (gaps_line c.gaps ++ (tracks_line c.tracks ++ (flat_map cycle_line c.cycles ++ (flat_map lemma_line c.lemmas ++ codes "end\n")))) in
    ap course_of (text_apart by name c) ∙ (ap course_at (fed_first (version_line_by by) later (version_lacks by)) ∙ course_first by (lines_in later))

-- no certificate that fits has a text that is refused
pub refused_by : (by : Course) (bytes name : List ℕ) (k : Kinds) (f : LogFault) (c : TrackCertificate) → IsLogName name → AreSomeKinds k → certificate_by by bytes name k ≡ Err f → CertificateFits k c → certificate_text_by by name c ≢ bytes
refused_by by bytes name k f c is_name some h fits same =
    err-ok f c (sym h ∙ (ap (λ (t : List ℕ). certificate_by by t name k) (sym same) ∙ read_again_by by name k c is_name some fits))

-- the same where nets go straight
pub refused : (bytes name : List ℕ) (k : Kinds) (f : LogFault) (c : TrackCertificate) → IsLogName name → AreSomeKinds k → certificate_of bytes name k ≡ Err f → CertificateFits k c → certificate_text name c ≢ bytes
refused = refused_by course.Straight

lines_most : {A : Type 0} (write : A → List ℕ) (items : List A) → ((item : A) → 0 < length (write item)) → length items ≤ length (flat_map write items)
lines_most write [] some = omega arith
lines_most write (item ∷ items) some = omega (arith, some item, lines_most write items some, length-append (write item) (flat_map write items))

some_cycle : (lemma : CycleLemma) → 0 < length (cycle_line lemma)
some_cycle lemma = omega arith

some_lemma : (lemma : TrackLemma) → 0 < length (lemma_line lemma)
some_lemma lemma = omega arith

lemmas_within : (by : Course) (name : List ℕ) (c : TrackCertificate) → length c.cycles + length c.lemmas ≤ length (certificate_text_by by name c)
lemmas_within by name c =
    let front = head_lines by name ++ gaps_line c.gaps ++ tracks_line c.tracks in
    let cycles = flat_map cycle_line c.cycles in
    let lemmas = flat_map lemma_line c.lemmas in
    omega (arith, lines_most cycle_line c.cycles some_cycle, lines_most lemma_line c.lemmas some_lemma, length-append (front ++ cycles ++ lemmas) (codes "end\n"), length-append (front ++ cycles) lemmas, length-append front cycles)

-- each lemma takes a byte at least
pub few_lemmas : (by : Course) (bytes name : List ℕ) (c : TrackCertificate) → bytes ≡ certificate_text_by by name c → length c.cycles + length c.lemmas ≤ length bytes
few_lemmas by bytes name c is = rw is (lemmas_within by name c)
