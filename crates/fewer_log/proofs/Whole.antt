-- The text of a certificate that fits is read again, and no other text is read.
use Rattle.std.specs.Prelude.{ℕ, ◌≡◌, ◌≢◌, ◌≤◌, ◌==◌, true, false, List, [], ◌∷◌, ◌++◌, Option, Some, None, Result, Ok, Err, All, IfSome, length, codes}
use Rattle.std.specs.Prelude.{drop}
use Rattle.std.proofs.Common.{refl, sym, ap, subst, arith, ◌∙◌, inl, inr}
use Rattle.std.specs.List.{join_with_byte}
use Rattle.std.proofs.lemmas.List.{length-append}
use Rattle.std.proofs.lemmas.List.Elements.{All-head, All-tail}
use Rattle.std.proofs.lemmas.List.Splits.{slice_split_none}
use Rattle.cell_num.specs.Steps.{or_fault}
use Rattle.row_state.specs.declared.kind.Kinds.{Kinds}
use Rattle.row_state.specs.Start.{AreSomeKinds}
use Rattle.log_lines.specs.Words.{words_in}
use Rattle.log_lines.specs.Lines.{behind, last_of, lines_in, without_last}
use Rattle.log_lines.proofs.Numbers.{chosen, same_words}
use Rattle.log_lines.proofs.Splits.{Lacks, above_lacks, behind_lacks, bytes_again, fed, lines_lack, lines_text}
use Rattle.bound_log.specs.declared.fault.LogFault.{LogFault}
use Rattle.bound_log.specs.declared.fault.LogFault.TheVariants as fault
use Rattle.bound_log.specs.Fits.{IsLogName}
use Rattle.bound_log.proofs.Again.{by_test, words_again, words_lack}
use Rattle.bound_log.proofs.Only.{err-ok, line_of_words, same_Ok, text_cons}
use Rattle.bound_log.proofs.Whole.{fed_first}
use Rattle.trail_log.specs.Spelling.{nets_text}
use Rattle.order_log.specs.declared.certificate.OrderCertificate.{OrderCertificate}
use Rattle.order_log.specs.Reading.{certificate_of, text_at}
use Rattle.order_log.proofs.Columns.{fed_behind}
use Rattle.order_log.proofs.Only.{bound_ok, read_only, there}
use Rattle.order_log.proofs.Whole.{few_lemmas, filled_text, read_again, text_apart}
use Rattle.pool_log.specs.declared.lemma.PoolLine.{PoolLine}
use Rattle.pool_log.specs.Fits.{LemmaFits, PoolsFit}
use Rattle.pool_log.specs.Line.{lemma_in}
use Rattle.pool_log.specs.Text.{lemma_words, pool_text, pools_of}
use Rattle.pool_log.specs.Text as pooled
use Rattle.pool_log.proofs.Lemmas.{lemmas_spelled, version_lacks}
use Rattle.fewer_fingers.specs.declared.fewer.LeftOut.{LeftOut}
use Rattle.fewer_log.specs.declared.certificate.FewerCertificate.{FewerCertificate}
use Rattle.fewer_log.specs.Fits.{FewerFits, OutFits}
use Rattle.fewer_log.specs.Line.{out_in}
use Rattle.fewer_log.specs.Reading.{fewer_of, leaving, names_out, out_at, two_later}
use Rattle.fewer_log.specs.Text.{fewer_text, out_lines, row_text, version_line}
use Rattle.fewer_log.proofs.Outs.{out_above, out_again, out_joined, out_only, out_words}

-- ---- what fits is read again

three_lacks : Lacks 10 version_line
three_lacks = above_lacks 31 10 version_line (omega arith) (by_test 31 version_line refl)

-- a text of lemmas alone begins with another line
other_front : (name : List ℕ) (pools : OrderCertificate PoolLine) → names_out (lines_in (pool_text name pools)) ≡ false
other_front name pools =
    ap (λ (t : List ℕ). names_out (lines_in t)) (text_apart lemma_words pooled.version_line name pools)
    ∙ ap names_out (fed_first pooled.version_line (fed (codes "cell " ++ name) ++ filled_text lemma_words pools) version_lacks)

pools_again : (name : List ℕ) (k : Kinds) (pools : OrderCertificate PoolLine) → IsLogName name → AreSomeKinds k → PoolsFit k pools → pools_of (pool_text name pools) name k ≡ Ok pools
pools_again name k pools is_name some fits =
    read_again (lemma_in k.nets) lemma_words (LemmaFits k.nets) (lemmas_spelled k.nets some.few_nets) pooled.version_line name k pools version_lacks is_name some fits

none_again : (name : List ℕ) (k : Kinds) (pools : OrderCertificate PoolLine) → IsLogName name → AreSomeKinds k → PoolsFit k pools → fewer_of (pool_text name pools) name k ≡ Ok (record { out = None; pools = pools })
none_again name k pools is_name some fits =
    rw (other_front name pools, pools_again name k pools is_name some fits) refl

rest_again : (name : List ℕ) (k : Kinds) (pools : OrderCertificate PoolLine) → IsLogName name → AreSomeKinds k → PoolsFit k pools → text_at (lemma_in k.nets) pooled.version_line name k (lines_in (pool_text name pools)) (behind (pool_text name pools)) ≡ Ok pools
unfolding certificate_of
rest_again name k pools is_name some fits = pools_again name k pools is_name some fits

front_apart : (out : LeftOut) (text : List ℕ) → out_lines (Some out) ++ text ≡ fed version_line ++ (fed (join_with_byte 32 (out_words out)) ++ text)
front_apart out text = ap (λ (line : List ℕ). fed version_line ++ (line ++ text)) (sym (out_joined out))

out_step : (name : List ℕ) (k : Kinds) (out : LeftOut) (line : List ℕ) (lines : List (List ℕ)) (rest : List ℕ) → out_in k.nets (words_in line) ≡ Some out → out_at name k (line ∷ lines) rest ≡ leaving (Some out) (text_at (lemma_in k.nets) pooled.version_line name k lines rest)
out_step name k out line lines rest some = rw some refl

some_again : (name : List ℕ) (k : Kinds) (out : LeftOut) (pools : OrderCertificate PoolLine) → IsLogName name → AreSomeKinds k → OutFits k.nets out → PoolsFit k pools → fewer_of (out_lines (Some out) ++ pool_text name pools) name k ≡ Ok (record { out = Some out; pools = pools })
some_again name k out pools is_name some out_fits fits =
    let line = join_with_byte 32 (out_words out) in
    let text = pool_text name pools in
    let lack : Lacks 10 line = words_lack (out_words out) (out_above out) in
    let read : out_in k.nets (words_in line) ≡ Some out = ap (out_in k.nets) (words_again (codes "without") (row_text out.row ∷ nets_text out.gates ∷ []) (out_above out)) ∙ out_again k.nets out some.few_nets out_fits in
    ap (λ (t : List ℕ). fewer_of t name k) (front_apart out text)
    ∙ (rw (fed_first version_line (fed line ++ text) three_lacks, fed_behind version_line (fed line ++ text) three_lacks, fed_first line text lack, fed_behind line text lack)
    (out_step name k out line (lines_in text) (behind text) read ∙ rw (rest_again name k pools is_name some fits) refl))

pub fewer_again : (name : List ℕ) (k : Kinds) (c : FewerCertificate) → IsLogName name → AreSomeKinds k → FewerFits k c → fewer_of (fewer_text name c) name k ≡ Ok c
fewer_again name k c is_name some fits = by_out c.out fits.out
  where
    by_out : (out : Option LeftOut) → IfSome out (OutFits k.nets) → fewer_of (out_lines out ++ pool_text name c.pools) name k ≡ Ok (record { out = out; pools = c.pools })
    by_out None out_fits = none_again name k c.pools is_name some fits.pools
    by_out (Some out) out_fits = some_again name k out c.pools is_name some out_fits fits.pools

-- ---- only such a text is read

-- lines and what is behind them are found again in their text
none_more : (rest : List ℕ) → Lacks 10 rest → (lines_in rest ≡ []) × (behind rest ≡ rest)
unfolding lines_in behind
none_more rest lack =
    let whole = slice_split_none (λ b. b == 10) rest lack in
    (ap without_last whole, ap last_of whole)

lines_again : (lines : List (List ℕ)) (rest : List ℕ) → All (Lacks 10) lines → Lacks 10 rest → (lines_in (lines_text lines rest) ≡ lines) × (behind (lines_text lines rest) ≡ rest)
unfolding lines_text
lines_again [] rest lacks lack = none_more rest lack
lines_again (line ∷ lines) rest lacks lack =
    let here : Lacks 10 line = All-head (Lacks 10) line lines lacks in
    let later = lines_again lines rest (All-tail (Lacks 10) line lines lacks) lack in
    let text = lines_text lines rest in (
      ap lines_in (text_cons line lines rest) ∙ (fed_first line text here ∙ ap (λ (ls : List (List ℕ)). line ∷ ls) later.0),
      ap behind (text_cons line lines rest) ∙ (fed_behind line text here ∙ later.1),
    )

pools_only : (bytes name : List ℕ) (k : Kinds) (pools : OrderCertificate PoolLine) → k.nets ≤ 256 → pools_of bytes name k ≡ Ok pools → PoolsFit k pools × (bytes ≡ pool_text name pools)
pools_only bytes name k pools few h =
    read_only (lemma_in k.nets) lemma_words (LemmaFits k.nets) (lemmas_spelled k.nets few) pooled.version_line bytes name k pools h

rest_only : (name : List ℕ) (k : Kinds) (lines : List (List ℕ)) (rest : List ℕ) (pools : OrderCertificate PoolLine) → k.nets ≤ 256 → All (Lacks 10) lines → Lacks 10 rest → text_at (lemma_in k.nets) pooled.version_line name k lines rest ≡ Ok pools → PoolsFit k pools × (lines_text lines rest ≡ pool_text name pools)
unfolding certificate_of
rest_only name k lines rest pools few lacks lack h =
    let same = lines_again lines rest lacks lack in
    pools_only (lines_text lines rest) name k pools few (rw (same.0, same.1) h)

left_with : (out : Option LeftOut) (r : Result (OrderCertificate PoolLine) LogFault) (c : FewerCertificate) → leaving out r ≡ Ok c → (pools : OrderCertificate PoolLine) × (r ≡ Ok pools) × (◌≡◌ {A = FewerCertificate} (record { out = out; pools = pools }) c)
left_with out (Ok pools) c h = (pools, refl, same_Ok (record { out = out; pools = pools }) c h)
left_with None (Err f) c h = absurd (err-ok f c h)
left_with (Some out) (Err f) c h = absurd (err-ok (two_later f) c h)

abbrev IsTextOf : List ℕ → Kinds → List ℕ → FewerCertificate → Type 0
IsTextOf name k bytes c = FewerFits k c × (bytes ≡ fewer_text name c)

out_read : (name : List ℕ) (k : Kinds) (lines : List (List ℕ)) (rest : List ℕ) (c : FewerCertificate) → k.nets ≤ 256 → All (Lacks 10) lines → Lacks 10 rest → names_out lines ≡ true → out_at name k (drop 1 lines) rest ≡ Ok c → IsTextOf name k (lines_text lines rest) c
out_read name k [] rest c few lacks lack y h = absurd cc
out_read name k (first ∷ []) rest c few lacks lack y h = absurd (err-ok fault.Cut c h)
out_read name k (first ∷ line ∷ lines) rest c few lacks lack y h =
    let found = bound_ok (or_fault (out_in k.nets (words_in line)) (fault.Line 2)) _ c h in
    let spelled = out_only k.nets (words_in line) found.0 (there (out_in k.nets (words_in line)) (fault.Line 2) found.0 found.1) in
    let left = left_with (Some found.0) (text_at (lemma_in k.nets) pooled.version_line name k lines rest) c found.2 in
    let later = rest_only name k lines rest left.0 few (All-tail (Lacks 10) line lines (All-tail (Lacks 10) first (line ∷ lines) lacks)) lack left.1 in
    let here : fed line ≡ fed (join_with_byte 32 (out_words found.0)) = line_of_words line (out_words found.0) spelled.0 in
    let text : lines_text (first ∷ line ∷ lines) rest ≡ fed version_line ++ (fed (join_with_byte 32 (out_words found.0)) ++ pool_text name left.0) =
    text_cons first (line ∷ lines) rest
    ∙ (ap (λ (bs : List ℕ). fed bs ++ lines_text (line ∷ lines) rest) (same_words first version_line y)
    ∙ ap (λ (bs : List ℕ). fed version_line ++ bs) (text_cons line lines rest
    ∙ (ap (λ (bs : List ℕ). bs ++ lines_text lines rest) here
    ∙ ap (λ (bs : List ℕ). fed (join_with_byte 32 (out_words found.0)) ++ bs) later.1))) in
    subst (IsTextOf name k (lines_text (first ∷ line ∷ lines) rest)) left.2 (record { out = spelled.1; pools = later.0 }, text ∙ sym (front_apart found.0 (pool_text name left.0)))

-- what is read fits, and its text is what was read
pub fewer_only : (bytes name : List ℕ) (k : Kinds) (c : FewerCertificate) → k.nets ≤ 256 → fewer_of bytes name k ≡ Ok c → FewerFits k c × (bytes ≡ fewer_text name c)
fewer_only bytes name k c few h =
    elim (chosen (names_out (lines_in bytes)) _ _ _ h) [
      | inl y ↦
          let read = out_read name k (lines_in bytes) (behind bytes) c few (lines_lack bytes) (behind_lacks bytes) y.0 y.1 in
          (read.0, bytes_again bytes ∙ read.1)
      | inr none ↦
          let left = left_with None (pools_of bytes name k) c none.1 in
          let read = pools_only bytes name k left.0 few left.1 in
          subst (IsTextOf name k bytes) left.2 (record { out = tt; pools = read.0 }, read.1)
    ]

-- no other certificate that fits has the text
pub fewer_one : (bytes name : List ℕ) (k : Kinds) (c other : FewerCertificate) → IsLogName name → AreSomeKinds k → fewer_of bytes name k ≡ Ok c → FewerFits k other → fewer_text name other ≡ bytes → other ≡ c
fewer_one bytes name k c other is_name some h fits same =
    same_Ok other c (sym (fewer_again name k other is_name some fits) ∙ (ap (λ (t : List ℕ). fewer_of t name k) same ∙ h))

-- no certificate that fits has a text that is refused
pub fewer_refused : (bytes name : List ℕ) (k : Kinds) (f : LogFault) (c : FewerCertificate) → IsLogName name → AreSomeKinds k → fewer_of bytes name k ≡ Err f → FewerFits k c → fewer_text name c ≢ bytes
fewer_refused bytes name k f c is_name some h fits same =
    err-ok f c (sym h ∙ (ap (λ (t : List ℕ). fewer_of t name k) (sym same) ∙ fewer_again name k c is_name some fits))

-- each lemma takes a byte at least
pub few_bytes : (bytes name : List ℕ) (c : FewerCertificate) → bytes ≡ fewer_text name c → length c.pools.lemmas ≤ length bytes
few_bytes bytes name c is =
    let text = pool_text name c.pools in
    let few : length c.pools.lemmas ≤ length text = few_lemmas lemma_words pooled.version_line text name c.pools refl in
    omega (arith, few, ap length is, length-append (out_lines c.out) text)
