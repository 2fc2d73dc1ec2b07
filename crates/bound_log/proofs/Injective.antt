-- No other log has the text of a log that fits.
use Rattle.std.specs.Prelude.{ℕ, ◌≡◌, ◌≢◌, ◌<◌, ◌≤◌, Bool, List, [], ◌∷◌, ◌++◌, Option, Some, None, Result, Ok, Err, All, IfSome, IsErr, length, map, codes, decimal}
use Rattle.std.proofs.Common.{refl, sym, ap, subst, arith, ◌∙◌}
use Rattle.std.specs.List.{flat_map, join_with_byte}
use Rattle.std.proofs.lemmas.List.{append_assoc}
use Rattle.std.proofs.lemmas.List.Elements.{All-head, All-tail}
use Rattle.std.proofs.lemmas.Option.{same_Some}
use Rattle.cell_num.specs.declared.net.NetNo.{NetNo}
use Rattle.row_state.specs.declared.kind.Kind.{Kind}
use Rattle.row_state.specs.declared.kind.Kinds.{Kinds}
use Rattle.row_state.specs.declared.step.Side.{Side}
use Rattle.row_state.specs.Start.{AreSomeKinds, IsState}
use Rattle.row_state.proofs.Valid.{gates_few, kinds_few}
use Rattle.log_lines.specs.Words.{parts_at, words_in}
use Rattle.log_lines.specs.Lines.{lines_in}
use Rattle.log_lines.proofs.Decimals.{decimal_one}
use Rattle.log_lines.proofs.Names.{same_behind}
use Rattle.log_lines.proofs.Splits.{IsAbove, Lacks, fed}
use Rattle.bound_log.specs.declared.fault.LogFault.{LogFault}
use Rattle.bound_log.specs.declared.log.Rule.{Rule}
use Rattle.bound_log.specs.declared.log.Lemma.{Lemma}
use Rattle.bound_log.specs.declared.log.LogStep.{LogStep}
use Rattle.bound_log.specs.declared.log.Best.{Best}
use Rattle.bound_log.specs.declared.log.Log.{Log}
use Rattle.bound_log.specs.Fits.{BestFits, Fits, LemmaFits, SideFits, StepFits}
use Rattle.bound_log.specs.Line.{flip_in, rule_in}
use Rattle.bound_log.specs.Reading.{log_of}
use Rattle.bound_log.specs.Text.{best_text, column_line, counts_text, end_text, flip_text, lemma_line, log_text, rule_text, version_line}
use Rattle.bound_log.proofs.Again.{column_above, column_words_are, counts_parts, few_counts, few_each, flip_again, flip_word, kind_word, lemma_above, not_dash, rule_again, words_again, words_lack}
use Rattle.bound_log.proofs.Only.{read_only}
use Rattle.bound_log.proofs.Spelled.{column_words, cons_same, lemma_words}
use Rattle.bound_log.proofs.Versions.{version_lacks, version_one}
use Rattle.bound_log.proofs.Whole.{columns_front, fed_first, gaps_above, gaps_front, lemmas_front}

cons_parts : {X : Type 0} (x y : X) (xs ys : List X) → (x ∷ xs) ≡ (y ∷ ys) → (x ≡ y) × (xs ≡ ys)
cons_parts x y xs ys h = (cc, cc)

nil_cons : {X : Type 0} (x : X) (xs : List X) → ◌≡◌ {A = List X} [] (x ∷ xs) → ⊥
nil_cons x xs h = absurd cc

-- ---- words

rule_same : (a b : Rule) → rule_text a ≡ rule_text b → a ≡ b
rule_same a b h = same_Some a b (sym (rule_again a) ∙ (ap rule_in h ∙ rule_again b))

flip_same : (a b : Bool) → flip_text a ≡ flip_text b → a ≡ b
flip_same a b h = same_Some a b (sym (flip_again a) ∙ (ap flip_in h ∙ flip_again b))

numbers_same : (xs ys : List ℕ) → All (λ (c : ℕ). c ≤ 64) ys → map decimal xs ≡ map decimal ys → xs ≡ ys
numbers_same [] [] few h = refl
numbers_same [] (y ∷ ys) few h = absurd (nil_cons (decimal y) (map decimal ys) h)
numbers_same (x ∷ xs) [] few h = absurd (nil_cons (decimal x) (map decimal xs) (sym h))
numbers_same (x ∷ xs) (y ∷ ys) few h =
    let parts = cons_parts (decimal x) (decimal y) (map decimal xs) (map decimal ys) h in
    let most : y ≤ 64 = All-head (λ (c : ℕ). c ≤ 64) y ys few in
    cons_same x y xs ys (decimal_one x y (omega (arith, most)) parts.0) (numbers_same xs ys (All-tail (λ (c : ℕ). c ≤ 64) y ys few) parts.1)

counts_not_dash : (c : ℕ) (cs : List ℕ) → counts_text (c ∷ cs) ≢ codes "-"
counts_not_dash c cs h =
    let parts : decimal c ∷ map decimal cs ≡ codes "-" ∷ [] = sym (counts_parts c cs) ∙ ap (parts_at 44) h in
    not_dash c (cons_parts (decimal c) (codes "-") (map decimal cs) [] parts).0

counts_same : (xs ys : List ℕ) → All (λ (c : ℕ). c ≤ 64) ys → counts_text xs ≡ counts_text ys → xs ≡ ys
counts_same [] [] few h = refl
counts_same [] (y ∷ ys) few h = absurd (counts_not_dash y ys (sym h))
counts_same (x ∷ xs) [] few h = absurd (counts_not_dash x xs h)
counts_same (x ∷ xs) (y ∷ ys) few h = numbers_same (x ∷ xs) (y ∷ ys) few (sym (counts_parts x xs) ∙ (ap (parts_at 44) h ∙ counts_parts y ys))

end_same : (nets : ℕ) (a b : Option NetNo) → nets ≤ 256 → IfSome b (λ v. v.0 < nets) → end_text a ≡ end_text b → a ≡ b
end_same nets None None few fits h = refl
end_same nets None (Some v) few fits h = absurd (not_dash v.0 (sym h))
end_same nets (Some u) None few fits h = absurd (not_dash u.0 h)
end_same nets (Some u) (Some v) few fits h =
    let number : u.0 ≡ v.0 = decimal_one u.0 v.0 (omega (arith, few, fits)) h in
    λ i. Some (record { 0 = number i })

side_same : (kinds : List Kind) (a b : Option Side) → length kinds ≤ 32 → SideFits kinds b → kind_word a ≡ kind_word b → flip_word a ≡ flip_word b → a ≡ b
unfolding kind_word flip_word
side_same kinds None None few fits h g = refl
side_same kinds None (Some t) few fits h g = absurd (not_dash t.kind (sym h))
side_same kinds (Some s) None few fits h g = absurd (not_dash s.kind h)
side_same kinds (Some s) (Some t) few fits h g =
    let kind : s.kind ≡ t.kind = decimal_one s.kind t.kind (omega (arith, few, fits)) h in
    let flipped : s.flipped ≡ t.flipped = flip_same s.flipped t.flipped g in
    λ i. Some (record { kind = kind i; flipped = flipped i })

-- ---- lines

lemma_same : (k : Kinds) (a b : Lemma) → AreSomeKinds k → LemmaFits k b → lemma_words a ≡ lemma_words b → a ≡ b
unfolding lemma_words
lemma_same k a b some fits h =
    let s = a.state in
    let t = b.state in
    let valid : IsState k t = fits.state in
    let bounds = cons_parts _ _ _ _ h in
    let rules = cons_parts _ _ _ _ bounds.1 in
    let p_lefts = cons_parts _ _ _ _ rules.1 in
    let n_lefts = cons_parts _ _ _ _ p_lefts.1 in
    let p_ends = cons_parts _ _ _ _ n_lefts.1 in
    let n_ends = cons_parts _ _ _ _ p_ends.1 in
    let p_few = few_counts k.p t.p_left (few_each k.p (λ gate. (gates_few k gate some).0)) valid.p_kinds valid.p_counts in
    let n_few = few_counts k.n t.n_left (few_each k.n (λ gate. (gates_few k gate some).1)) valid.n_kinds valid.n_counts in
    let bound : a.bound ≡ b.bound = decimal_one a.bound b.bound (omega (arith, fits.few)) bounds.0 in
    let rule : a.rule ≡ b.rule = rule_same a.rule b.rule rules.0 in
    let p_left : s.p_left ≡ t.p_left = counts_same s.p_left t.p_left p_few p_lefts.0 in
    let n_left : s.n_left ≡ t.n_left = counts_same s.n_left t.n_left n_few n_lefts.0 in
    let p_end : s.p_end ≡ t.p_end = end_same k.nets s.p_end t.p_end some.few_nets valid.p_end p_ends.0 in
    let n_end : s.n_end ≡ t.n_end = end_same k.nets s.n_end t.n_end some.few_nets valid.n_end n_ends.0 in
    λ i. record { state = record { p_left = p_left i; n_left = n_left i; p_end = p_end i; n_end = n_end i }; bound = bound i; rule = rule i }

column_same : (k : Kinds) (a b : LogStep) → AreSomeKinds k → StepFits k b → column_words a ≡ column_words b → a ≡ b
column_same k a b some fits h =
    let gates = cons_parts _ _ _ _ (sym (column_words_are a) ∙ (h ∙ column_words_are b)) in
    let p_kinds = cons_parts _ _ _ _ gates.1 in
    let p_flips = cons_parts _ _ _ _ p_kinds.1 in
    let n_kinds = cons_parts _ _ _ _ p_flips.1 in
    let n_flips = cons_parts _ _ _ _ n_kinds.1 in
    let gate : a.gate.0 ≡ b.gate.0 = decimal_one a.gate.0 b.gate.0 (omega (arith, fits.gate, some.few_nets)) gates.0 in
    let p : a.step.p ≡ b.step.p = side_same k.p a.step.p b.step.p (kinds_few k some).0 fits.p p_kinds.0 p_flips.0 in
    let n : a.step.n ≡ b.step.n = side_same k.n a.step.n b.step.n (kinds_few k some).1 fits.n n_kinds.0 n_flips.0 in
    λ i. record { gate = record { 0 = gate i }; step = record { p = p i; n = n i } }

-- two texts that begin with a line
line_same : (a b xs ys : List ℕ) → Lacks 10 a → Lacks 10 b → fed a ++ xs ≡ fed b ++ ys → (a ≡ b) × (xs ≡ ys)
line_same a b xs ys lack_a lack_b h =
    let lines : a ∷ lines_in xs ≡ b ∷ lines_in ys = sym (fed_first a xs lack_a) ∙ (ap lines_in h ∙ fed_first b ys lack_b) in
    let first : a ≡ b = (cons_parts a b (lines_in xs) (lines_in ys) lines).0 in
    (first, same_behind (fed b) xs ys (ap (λ (line : List ℕ). fed line ++ xs) (sym first) ∙ h))

-- two lines that begin with one word
words_same : (word : List ℕ) (ws vs : List (List ℕ)) (xs ys : List ℕ) → All (IsAbove 32) (word ∷ ws) → All (IsAbove 32) (word ∷ vs) → fed (join_with_byte 32 (word ∷ ws)) ++ xs ≡ fed (join_with_byte 32 (word ∷ vs)) ++ ys → (ws ≡ vs) × (xs ≡ ys)
words_same word ws vs xs ys above_ws above_vs h =
    let lines = line_same (join_with_byte 32 (word ∷ ws)) (join_with_byte 32 (word ∷ vs)) xs ys (words_lack (word ∷ ws) above_ws) (words_lack (word ∷ vs) above_vs) h in
    let words : word ∷ ws ≡ word ∷ vs = sym (words_again word ws above_ws) ∙ (ap words_in lines.0 ∙ words_again word vs above_vs) in
    ((cons_parts word word ws vs words).1, lines.1)

-- ---- the whole text

-- the first byte tells the kinds of lines apart
first_of : List ℕ → ℕ
first_of [] = 0
first_of (b ∷ bs) = b

columns_same : (k : Kinds) (xs ys : List LogStep) → AreSomeKinds k → All (StepFits k) ys → flat_map column_line xs ++ codes "end\n" ≡ flat_map column_line ys ++ codes "end\n" → xs ≡ ys
unfolding first_of
columns_same k [] [] some fits h = refl
columns_same k [] (y ∷ ys) some fits h = let first : ◌≡◌ {A = ℕ} 101 99 = ap first_of h in absurd (omega (arith, first))
columns_same k (x ∷ xs) [] some fits h = let first : ◌≡◌ {A = ℕ} 99 101 = ap first_of h in absurd (omega (arith, first))
columns_same k (x ∷ xs) (y ∷ ys) some fits h =
    let lines = words_same (codes "column") (column_words x) (column_words y) (flat_map column_line xs ++ codes "end\n") (flat_map column_line ys ++ codes "end\n") (column_above x) (column_above y) (sym (columns_front x xs (codes "end\n")) ∙ (h ∙ columns_front y ys (codes "end\n"))) in
    cons_same x y xs ys (column_same k x y some (All-head (StepFits k) y ys fits) lines.0) (columns_same k xs ys some (All-tail (StepFits k) y ys fits) lines.1)

best_same : (k : Kinds) (a b : Option Best) → AreSomeKinds k → IfSome b (BestFits k) → best_text a ++ codes "end\n" ≡ best_text b ++ codes "end\n" → a ≡ b
unfolding first_of
best_same k None None some fits h = refl
best_same k None (Some b) some fits h = let first : ◌≡◌ {A = ℕ} 111 103 = ap first_of h in absurd (omega (arith, first))
best_same k (Some a) None some fits h = let first : ◌≡◌ {A = ℕ} 103 111 = ap first_of h in absurd (omega (arith, first))
best_same k (Some a) (Some b) some fits h =
    let lines = words_same (codes "gaps") (decimal a.gaps ∷ []) (decimal b.gaps ∷ []) (flat_map column_line a.steps ++ codes "end\n") (flat_map column_line b.steps ++ codes "end\n") (gaps_above a.gaps) (gaps_above b.gaps) (sym (gaps_front a (codes "end\n")) ∙ (h ∙ gaps_front b (codes "end\n"))) in
    let gaps : a.gaps ≡ b.gaps = decimal_one a.gaps b.gaps (omega (arith, fits.few)) (cons_parts _ _ _ _ lines.0).0 in
    let steps : a.steps ≡ b.steps = columns_same k a.steps b.steps some fits.steps lines.1 in
    λ i. Some (record { gaps = gaps i; steps = steps i })

not_lemma : (best : Option Best) (rest : List ℕ) → first_of (best_text best ++ rest) ≢ 108
unfolding first_of
not_lemma None rest e = omega (arith, e)
not_lemma (Some best) rest e = omega (arith, e)

rest_same : (k : Kinds) (xs ys : List Lemma) (a b : Option Best) → AreSomeKinds k → All (LemmaFits k) ys → IfSome b (BestFits k) → flat_map lemma_line xs ++ (best_text a ++ codes "end\n") ≡ flat_map lemma_line ys ++ (best_text b ++ codes "end\n") → (xs ≡ ys) × (a ≡ b)
unfolding first_of
rest_same k [] [] a b some fits best h = (refl, best_same k a b some best h)
rest_same k [] (y ∷ ys) a b some fits best h = absurd (not_lemma a (codes "end\n") (ap first_of h))
rest_same k (x ∷ xs) [] a b some fits best h = absurd (not_lemma b (codes "end\n") (ap first_of (sym h)))
rest_same k (x ∷ xs) (y ∷ ys) a b some fits best h =
    let end_a = best_text a ++ codes "end\n" in
    let end_b = best_text b ++ codes "end\n" in
    let lines = words_same (codes "lemma") (lemma_words x) (lemma_words y) (flat_map lemma_line xs ++ end_a) (flat_map lemma_line ys ++ end_b) (lemma_above x) (lemma_above y) (sym (lemmas_front x xs end_a) ∙ (h ∙ lemmas_front y ys end_b)) in
    let later = rest_same k xs ys a b some (All-tail (LemmaFits k) y ys fits) best lines.1 in
    (cons_same x y xs ys (lemma_same k x y some (All-head (LemmaFits k) y ys fits) lines.0) later.0, later.1)

-- two logs, one of which fits, have different texts
pub text_one : (name : List ℕ) (k : Kinds) (a b : Log) → AreSomeKinds k → Fits k b → log_text name a ≡ log_text name b → a ≡ b
text_one name k a b some fits h =
    let behind_a = flat_map lemma_line a.lemmas ++ (best_text a.best ++ codes "end\n") in
    let behind_b = flat_map lemma_line b.lemmas ++ (best_text b.best ++ codes "end\n") in
    let cell = codes "cell " ++ name ++ codes "\n" in
    let lines = line_same (version_line a.version) (version_line b.version) (cell ++ behind_a) (cell ++ behind_b) (version_lacks a.version) (version_lacks b.version) (sym (apart a) ∙ (h ∙ apart b)) in
    let version : a.version ≡ b.version = version_one a.version b.version fits.version lines.0 in
    let same = rest_same k a.lemmas b.lemmas a.best b.best some fits.lemmas fits.best (same_behind cell behind_a behind_b lines.1) in
    λ i. record { version = version i; lemmas = same.0 i; best = same.1 i }
  where
    parts_apart : (first cell ls best : List ℕ) → first ++ codes "\n" ++ codes "cell " ++ cell ++ codes "\n" ++ ls ++ best ++ codes "end\n" ≡ fed first ++ ((codes "cell " ++ cell ++ codes "\n") ++ (ls ++ (best ++ codes "end\n")))
    parts_apart first cell ls best = simp append_assoc

    apart : (log : Log) → log_text name log ≡ fed (version_line log.version) ++ ((codes "cell " ++ name ++ codes "\n") ++ (flat_map lemma_line log.lemmas ++ (best_text log.best ++ codes "end\n")))
    apart log = parts_apart (version_line log.version) name (flat_map lemma_line log.lemmas) (best_text log.best)

-- what is read is the text of no other log
pub read_one : (bytes name : List ℕ) (k : Kinds) (log other : Log) → AreSomeKinds k → log_of bytes name k ≡ Ok log → log_text name other ≡ bytes → other ≡ log
read_one bytes name k log other some h same =
    let read = read_only bytes name k log some h in
    text_one name k other log some read.0 (same ∙ read.1)

is_refused : (r : Result Log LogFault) → ((log : Log) → r ≢ Ok log) → IsErr r
is_refused (Ok log) h = absurd (h log refl)
is_refused (Err f) h = refl

-- the text of a log that does not fit is refused
pub unfit_refused : (name : List ℕ) (k : Kinds) (log : Log) → AreSomeKinds k → (Fits k log → ⊥) → IsErr (log_of (log_text name log) name k)
unfit_refused name k log some unfit =
    is_refused (log_of (log_text name log) name k) (λ other h.
    let read = read_only (log_text name log) name k other some h in
    unfit (subst (Fits k) (sym (text_one name k log other some read.0 read.1)) read.0))
