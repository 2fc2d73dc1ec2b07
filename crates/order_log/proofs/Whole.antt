-- The whole text of a certificate that fits is read again.
use Rattle.std.specs.Prelude.{ℕ, ◌≡◌, ◌≢◌, ◌+◌, ◌<◌, ◌≤◌, ◌==◌, false, List, [], ◌∷◌, ◌++◌, Option, Some, None, Ok, Err, All, IfSome, length, codes, decimal}
use Rattle.std.proofs.Common.{refl, sym, ap, arith, ◌∙◌}
use Rattle.std.specs.List.{flat_map, join_with_byte}
use Rattle.std.proofs.lemmas.Bool.{ne_eqb}
use Rattle.std.proofs.lemmas.List.{append_assoc, length-append}
use Rattle.std.proofs.lemmas.List.Elements.{All-append, All-cons, All-head, All-nil, All-tail}
use Rattle.cell_num.specs.declared.net.NetNo.{NetNo}
use Rattle.row_state.specs.declared.kind.Kinds.{Kinds}
use Rattle.row_state.specs.Start.{AreSomeKinds}
use Rattle.log_lines.specs.Words.{words_in}
use Rattle.log_lines.specs.Lines.{behind, lines_in}
use Rattle.log_lines.proofs.Numbers.{is_below, is_same}
use Rattle.log_lines.proofs.Splits.{IsAbove, Lacks, above_lacks, fed}
use Rattle.bound_log.specs.declared.fault.LogFault.{LogFault}
use Rattle.bound_log.specs.declared.log.Best.{Best}
use Rattle.bound_log.specs.Fits.{BestFits, IsLogName}
use Rattle.bound_log.specs.Reading.{columns_at, end_at}
use Rattle.bound_log.specs.Text.{best_text, column_line}
use Rattle.bound_log.proofs.Again.{by_test, words_again, words_lack}
use Rattle.bound_log.proofs.Only.{err-ok}
use Rattle.bound_log.proofs.Whole.{fed_first, gaps_above, gaps_front}
use Rattle.bound_log.specs.declared.log.Ending.TheVariants as ending
use Rattle.trail_log.specs.Spelling.{nets_text}
use Rattle.trail_log.specs.Line.{fill_in, order_in}
use Rattle.trail_log.specs.Text.{fill_line, order_line}
use Rattle.trail_log.proofs.Words.{fill_above, fill_again, fill_joined, order_above, order_again, order_joined}
use Rattle.order_log.specs.declared.certificate.OrderCertificate.{OrderCertificate}
use Rattle.order_log.specs.declared.certificate.OrderEntry.{OrderEntry}
use Rattle.order_log.specs.declared.certificate.OrderEntry.TheVariants as entry
use Rattle.order_log.specs.Fits.{CertificateFits}
use Rattle.order_log.specs.Reading.{begun_by, certificate_of, entry_in, fill_at, lemmas_at, named_at, order_at, text_at}
use Rattle.order_log.specs.Text.{certificate_text, head_lines, lemma_line}
use Rattle.order_log.proofs.Columns.{columns_again, fed_behind}
use Rattle.order_log.proofs.Spells.{Spells, lemma_above}

-- ---- lemmas, and what follows them

gaps_again : {L : Type 0} (said : List (List ℕ) → Option L) (gaps : ℕ) → gaps ≤ 63 → entry_in said (codes "gaps" ∷ decimal gaps ∷ []) ≡ Some (entry.Ending (ending.Gaps gaps))
gaps_again said gaps few = rw (is_below 64 (decimal gaps) gaps refl (omega (arith, few)) (omega arith)) refl

entry_again : {L : Type 0} (said : List (List ℕ) → Option L) (all : List (List ℕ)) (lemma : L) → said all ≡ Some lemma → entry_in said (codes "lemma" ∷ all) ≡ Some (entry.Lemma lemma)
entry_again said all lemma some = rw some refl

entry_step : {L : Type 0} (said : List (List ℕ) → Option L) (fill order : List NetNo) (k : Kinds) (n : ℕ) (line : List ℕ) (lines : List (List ℕ)) (rest : List ℕ) (e : OrderEntry L) → entry_in said (words_in line) ≡ Some e → lemmas_at said fill order k n (line ∷ lines) rest ≡ begun_by fill order e (lemmas_at said fill order k (n + 1) lines rest) (columns_at k (n + 1) lines rest) (end_at (n + 1) lines rest)
unfolding lemmas_at
entry_step said fill order k n line lines rest e some = rw some refl

open_again : {L : Type 0} (said : List (List ℕ) → Option L) (fill order : List NetNo) (k : Kinds) (n : ℕ) → lemmas_at said fill order k n (lines_in (codes "open\n" ++ codes "end\n")) (behind (codes "open\n" ++ codes "end\n")) ≡ Ok (record { fill = fill; order = order; lemmas = []; best = None })
unfolding lemmas_at lines_in behind
open_again said fill order k n = refl

best_again : {L : Type 0} (said : List (List ℕ) → Option L) (fill order : List NetNo) (k : Kinds) (n : ℕ) (best : Option Best) → AreSomeKinds k → IfSome best (BestFits k) → lemmas_at said fill order k n (lines_in (best_text best ++ codes "end\n")) (behind (best_text best ++ codes "end\n")) ≡ Ok (record { fill = fill; order = order; lemmas = []; best = best })
best_again said fill order k n None some h = open_again said fill order k n
best_again said fill order k n (Some best) some h =
    let line = codes "gaps " ++ decimal best.gaps in
    let text = flat_map column_line best.steps ++ codes "end\n" in
    let above : All (IsAbove 32) (codes "gaps" ∷ decimal best.gaps ∷ []) = gaps_above best.gaps in
    let lack : Lacks 10 line = words_lack (codes "gaps" ∷ decimal best.gaps ∷ []) above in
    let whole : best_text (Some best) ++ codes "end\n" ≡ fed line ++ text = gaps_front best (codes "end\n") in
    let read : entry_in said (words_in line) ≡ Some (entry.Ending (ending.Gaps best.gaps)) = ap (entry_in said) (words_again (codes "gaps") (decimal best.gaps ∷ []) above) ∙ gaps_again said best.gaps h.few in
    ap (λ (t : List ℕ). lemmas_at said fill order k n (lines_in t) (behind t)) whole
    ∙ (rw (fed_first line text lack, fed_behind line text lack) (entry_step said fill order k n line (lines_in text) (behind text) (entry.Ending (ending.Gaps best.gaps)) read ∙ rw (columns_again k (n + 1) best.steps some h.steps) refl))

-- the text from the lemmas on
abbrev pub rest_text : {L : Type 0} → (L → List (List ℕ)) → List L → Option Best → List ℕ
rest_text words lemmas best = flat_map (lemma_line words) lemmas ++ (best_text best ++ codes "end\n")

lemmas_front : {L : Type 0} (words : L → List (List ℕ)) (lemma : L) (lemmas : List L) (rest : List ℕ) → flat_map (lemma_line words) (lemma ∷ lemmas) ++ rest ≡ fed (join_with_byte 32 (codes "lemma" ∷ words lemma)) ++ (flat_map (lemma_line words) lemmas ++ rest)
unfolding lemma_line
lemmas_front words lemma lemmas rest = append_assoc (lemma_line words lemma) (flat_map (lemma_line words) lemmas) rest

lemmas_again : {L : Type 0} (said : List (List ℕ) → Option L) (words : L → List (List ℕ)) (Good : L → Type 0) (spells : Spells said words Good) (fill order : List NetNo) (k : Kinds) (n : ℕ) (lemmas : List L) (best : Option Best) → AreSomeKinds k → All Good lemmas → IfSome best (BestFits k) → lemmas_at said fill order k n (lines_in (rest_text words lemmas best)) (behind (rest_text words lemmas best)) ≡ Ok (record { fill = fill; order = order; lemmas = lemmas; best = best })
lemmas_again said words Good spells fill order k n [] best some h b = best_again said fill order k n best some b
lemmas_again said words Good spells fill order k n (lemma ∷ lemmas) best some h b =
    let line = join_with_byte 32 (codes "lemma" ∷ words lemma) in
    let text = rest_text words lemmas best in
    let above : All (IsAbove 32) (codes "lemma" ∷ words lemma) = lemma_above words lemma (spells.above lemma) in
    let lack : Lacks 10 line = words_lack (codes "lemma" ∷ words lemma) above in
    let whole : rest_text words (lemma ∷ lemmas) best ≡ fed line ++ text = lemmas_front words lemma lemmas (best_text best ++ codes "end\n") in
    let read : entry_in said (words_in line) ≡ Some (entry.Lemma lemma) = ap (entry_in said) (words_again (codes "lemma") (words lemma) above) ∙ entry_again said (words lemma) lemma (spells.again lemma (All-head Good lemma lemmas h)) in
    ap (λ (t : List ℕ). lemmas_at said fill order k n (lines_in t) (behind t)) whole
    ∙ (rw (fed_first line text lack, fed_behind line text lack) (entry_step said fill order k n line (lines_in text) (behind text) (entry.Lemma lemma) read ∙ rw (lemmas_again said words Good spells fill order k (n + 1) lemmas best some (All-tail Good lemma lemmas h) b) refl))

-- ---- the lines in front

other_lack : (text : List ℕ) → All (λ byte. byte ≢ 10) text → Lacks 10 text
other_lack [] h = All-nil (λ b. (b == 10) ≡ false)
other_lack (b ∷ bs) h = All-cons (λ b. (b == 10) ≡ false) b bs (ne_eqb b 10 (All-head (λ byte. byte ≢ 10) b bs h)) (other_lack bs (All-tail (λ byte. byte ≢ 10) b bs h))

order_step : {L : Type 0} (said : List (List ℕ) → Option L) (fill order : List NetNo) (k : Kinds) (line : List ℕ) (lines : List (List ℕ)) (rest : List ℕ) → order_in k.nets (words_in line) ≡ Some order → order_at said fill k (line ∷ lines) rest ≡ lemmas_at said fill order k 5 lines rest
order_step said fill order k line lines rest some = rw some refl

fill_step : {L : Type 0} (said : List (List ℕ) → Option L) (fill : List NetNo) (k : Kinds) (line : List ℕ) (lines : List (List ℕ)) (rest : List ℕ) → fill_in k.nets (words_in line) ≡ Some fill → fill_at said k (line ∷ lines) rest ≡ order_at said fill k lines rest
fill_step said fill k line lines rest some = rw some refl

named_step : {L : Type 0} (said : List (List ℕ) → Option L) (name : List ℕ) (k : Kinds) (line : List ℕ) (lines : List (List ℕ)) (rest : List ℕ) → line ≡ codes "cell " ++ name → named_at said name k (line ∷ lines) rest ≡ fill_at said k lines rest
named_step said name k line lines rest is = rw (is_same line (codes "cell " ++ name) is) refl

text_step : {L : Type 0} (said : List (List ℕ) → Option L) (version name : List ℕ) (k : Kinds) (line : List ℕ) (lines : List (List ℕ)) (rest : List ℕ) → line ≡ version → text_at said version name k (line ∷ lines) rest ≡ named_at said name k lines rest
text_step said version name k line lines rest is = rw (is_same line version is) refl

-- the text from the order on
abbrev pub ordered_text : {L : Type 0} → (L → List (List ℕ)) → OrderCertificate L → List ℕ
ordered_text words c = order_line c.order ++ rest_text words c.lemmas c.best

ordered_again : {L : Type 0} (said : List (List ℕ) → Option L) (words : L → List (List ℕ)) (Good : L → Type 0) (spells : Spells said words Good) (k : Kinds) (c : OrderCertificate L) → AreSomeKinds k → CertificateFits Good k c → order_at said c.fill k (lines_in (ordered_text words c)) (behind (ordered_text words c)) ≡ Ok c
ordered_again said words Good spells k c some fits =
    let line = join_with_byte 32 (codes "order" ∷ nets_text c.order ∷ []) in
    let text = rest_text words c.lemmas c.best in
    let above : All (IsAbove 32) (codes "order" ∷ nets_text c.order ∷ []) = order_above c.order in
    let lack : Lacks 10 line = words_lack (codes "order" ∷ nets_text c.order ∷ []) above in
    let read : order_in k.nets (words_in line) ≡ Some c.order = ap (order_in k.nets) (words_again (codes "order") (nets_text c.order ∷ []) above) ∙ order_again k.nets c.order some.few_nets fits.order in
    ap (λ (l : List ℕ). order_at said c.fill k (lines_in (l ++ text)) (behind (l ++ text))) (sym (order_joined c.order))
    ∙ (rw (fed_first line text lack, fed_behind line text lack) (order_step said c.fill c.order k line (lines_in text) (behind text) read ∙ lemmas_again said words Good spells c.fill c.order k 5 c.lemmas c.best some fits.lemmas fits.best))

-- the text from the filled gates on
abbrev pub filled_text : {L : Type 0} → (L → List (List ℕ)) → OrderCertificate L → List ℕ
filled_text words c = fill_line c.fill ++ ordered_text words c

filled_again : {L : Type 0} (said : List (List ℕ) → Option L) (words : L → List (List ℕ)) (Good : L → Type 0) (spells : Spells said words Good) (k : Kinds) (c : OrderCertificate L) → AreSomeKinds k → CertificateFits Good k c → fill_at said k (lines_in (filled_text words c)) (behind (filled_text words c)) ≡ Ok c
filled_again said words Good spells k c some fits =
    let line = join_with_byte 32 (codes "fill" ∷ nets_text c.fill ∷ []) in
    let text = ordered_text words c in
    let above : All (IsAbove 32) (codes "fill" ∷ nets_text c.fill ∷ []) = fill_above c.fill in
    let lack : Lacks 10 line = words_lack (codes "fill" ∷ nets_text c.fill ∷ []) above in
    let read : fill_in k.nets (words_in line) ≡ Some c.fill = ap (fill_in k.nets) (words_again (codes "fill") (nets_text c.fill ∷ []) above) ∙ fill_again k.nets c.fill some.few_nets fits.fill fits.increase in
    ap (λ (l : List ℕ). fill_at said k (lines_in (l ++ text)) (behind (l ++ text))) (sym (fill_joined c.fill))
    ∙ (rw (fed_first line text lack, fed_behind line text lack) (fill_step said c.fill k line (lines_in text) (behind text) read ∙ ordered_again said words Good spells k c some fits))

-- the lines of a certificate, one behind the other
pub text_apart : {L : Type 0} (words : L → List (List ℕ)) (version name : List ℕ) (c : OrderCertificate L) → certificate_text words version name c ≡ fed version ++ (fed (codes "cell " ++ name) ++ filled_text words c)
text_apart words version name c = apart version name (fill_line c.fill) (order_line c.order) (flat_map (lemma_line words) c.lemmas) (best_text c.best)
  where
    apart : (front cell fill order ls best : List ℕ) → (front ++ codes "\ncell " ++ cell ++ codes "\n") ++ fill ++ order ++ ls ++ best ++ codes "end\n" ≡ fed front ++ (fed (codes "cell " ++ cell) ++ (fill ++ (order ++ (ls ++ (best ++ codes "end\n")))))
    apart front cell fill order ls best = simp append_assoc

-- what fits is read again
pub read_again : {L : Type 0} (said : List (List ℕ) → Option L) (words : L → List (List ℕ)) (Good : L → Type 0) (spells : Spells said words Good) (version name : List ℕ) (k : Kinds) (c : OrderCertificate L) → Lacks 10 version → IsLogName name → AreSomeKinds k → CertificateFits Good k c → certificate_of said version (certificate_text words version name c) name k ≡ Ok c
unfolding certificate_of
read_again said words Good spells version name k c front is_name some fits =
    let cell = codes "cell " ++ name in
    let later = filled_text words c in
    let word : Lacks 10 (codes "cell ") = above_lacks 31 10 (codes "cell ") (omega arith) (by_test 31 (codes "cell ") refl) in
    let named : Lacks 10 cell = All-append (λ b. (b == 10) ≡ false) (codes "cell ") name word (other_lack name is_name.line) in
    ap (λ (t : List ℕ). text_at said version name k (lines_in t) (behind t)) (text_apart words version name c)
    ∙ (rw (fed_first version (fed cell ++ later) front, fed_behind version (fed cell ++ later) front, fed_first cell later named, fed_behind cell later named)
    (text_step said version name k version (cell ∷ lines_in later) (behind later) refl
    ∙ (named_step said name k cell (lines_in later) (behind later) refl ∙ filled_again said words Good spells k c some fits)))

-- no certificate that fits has a text that is refused
pub refused : {L : Type 0} (said : List (List ℕ) → Option L) (words : L → List (List ℕ)) (Good : L → Type 0) (spells : Spells said words Good) (version bytes name : List ℕ) (k : Kinds) (f : LogFault) (c : OrderCertificate L) → Lacks 10 version → IsLogName name → AreSomeKinds k → certificate_of said version bytes name k ≡ Err f → CertificateFits Good k c → certificate_text words version name c ≢ bytes
refused said words Good spells version bytes name k f c front is_name some h fits same = err-ok f c (sym h ∙ (ap (λ (t : List ℕ). certificate_of said version t name k) (sym same) ∙ read_again said words Good spells version name k c front is_name some fits))

-- ---- lengths

some_line : {L : Type 0} (words : L → List (List ℕ)) (lemma : L) → 0 < length (lemma_line words lemma)
unfolding lemma_line
some_line words lemma = omega (arith, length-append (join_with_byte 32 (codes "lemma" ∷ words lemma)) (codes "\n"))

lines_most : {L : Type 0} (words : L → List (List ℕ)) (lemmas : List L) → length lemmas ≤ length (flat_map (lemma_line words) lemmas)
lines_most words [] = omega arith
lines_most words (lemma ∷ lemmas) = omega (arith, some_line words lemma, lines_most words lemmas, length-append (lemma_line words lemma) (flat_map (lemma_line words) lemmas))

lemmas_within : {L : Type 0} (words : L → List (List ℕ)) (version name : List ℕ) (c : OrderCertificate L) → length c.lemmas ≤ length (certificate_text words version name c)
lemmas_within words version name c =
    let front = head_lines version name ++ fill_line c.fill ++ order_line c.order in
    let lines = flat_map (lemma_line words) c.lemmas in
    omega (arith, lines_most words c.lemmas, length-append ((front ++ lines) ++ best_text c.best) (codes "end\n"), length-append (front ++ lines) (best_text c.best), length-append front lines)

-- each lemma takes a byte at least
pub few_lemmas : {L : Type 0} (words : L → List (List ℕ)) (version bytes name : List ℕ) (c : OrderCertificate L) → bytes ≡ certificate_text words version name c → length c.lemmas ≤ length bytes
few_lemmas words version bytes name c is = rw is (lemmas_within words version name c)
