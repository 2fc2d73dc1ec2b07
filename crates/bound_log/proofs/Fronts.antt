-- What the lines so far add to what the later ones hold.
use Rattle.std.specs.Prelude.{ℕ, ◌≡◌, ◌+◌, true, false, List, [], ◌∷◌, ◌++◌, Some, None, Result, Ok, Err, codes}
use Rattle.std.proofs.Common.{refl, sym, ap, ◌∙◌}
use Rattle.std.proofs.lemmas.List.{append-nil, append_assoc}
use Rattle.cell_num.specs.Steps.{◌>>=◌}
use Rattle.row_state.specs.declared.kind.Kinds.{Kinds}
use Rattle.log_lines.specs.Words.{is_word, words_in}
use Rattle.bound_log.specs.declared.fault.LogFault.{LogFault}
use Rattle.bound_log.specs.declared.fault.LogFault.TheVariants as fault
use Rattle.bound_log.specs.declared.log.Lemma.{Lemma}
use Rattle.bound_log.specs.declared.log.LogStep.{LogStep}
use Rattle.bound_log.specs.declared.log.Log.{Log}
use Rattle.bound_log.specs.declared.log.Ending.TheVariants as ending
use Rattle.bound_log.specs.declared.log.Entry.TheVariants as entry
use Rattle.bound_log.specs.Line.{entry_in, column_in}
use Rattle.bound_log.specs.Reading.{columns_at, end_at, log_at}

-- ---- columns

abbrev pub with_columns : List LogStep → Result (List LogStep) LogFault → Result (List LogStep) LogFault
with_columns front (Ok later) = Ok (front ++ later)
with_columns front (Err f) = Err f

pub columns_cut : (k : Kinds) (n : ℕ) (lines : List (List ℕ)) (rest : List ℕ) (front : List LogStep) (all : Result (List LogStep) LogFault) → with_columns front (columns_at k n lines rest) ≡ all → lines ≡ [] → all ≡ Err fault.Cut
unfolding columns_at
columns_cut k n lines rest front all h is = sym h ∙ ap (λ ls. with_columns front (columns_at k n ls rest)) is

columns_end : (k : Kinds) (n : ℕ) (lines : List (List ℕ)) (rest : List ℕ) (front : List LogStep) (all : Result (List LogStep) LogFault) (line : List ℕ) (later : List (List ℕ)) → with_columns front (columns_at k n lines rest) ≡ all → lines ≡ line ∷ later → is_word line (codes "end") ≡ true → with_columns front (end_at n lines rest >>= λ _. Ok []) ≡ all
unfolding columns_at
columns_end k n lines rest front all line later h is end = rw is (sym (rw end refl) ∙ ap (λ ls. with_columns front (columns_at k n ls rest)) (sym is) ∙ h)

pub columns_done : (k : Kinds) (n : ℕ) (lines : List (List ℕ)) (rest : List ℕ) (front : List LogStep) (all : Result (List LogStep) LogFault) (line : List ℕ) (later : List (List ℕ)) → with_columns front (columns_at k n lines rest) ≡ all → lines ≡ line ∷ later → is_word line (codes "end") ≡ true → Ok tt ≡ end_at n lines rest → all ≡ Ok front
columns_done k n lines rest front all line later h is end done =
    sym (columns_end k n lines rest front all line later h is end) ∙ (ap (λ (r : Result (Unit {0}) LogFault). with_columns front (r >>= λ _. Ok [])) (sym done) ∙ ap Ok (append-nil front))

pub columns_open : (k : Kinds) (n : ℕ) (lines : List (List ℕ)) (rest : List ℕ) (front : List LogStep) (all : Result (List LogStep) LogFault) (line : List ℕ) (later : List (List ℕ)) (f : LogFault) → with_columns front (columns_at k n lines rest) ≡ all → lines ≡ line ∷ later → is_word line (codes "end") ≡ true → Err f ≡ end_at n lines rest → all ≡ Err f
columns_open k n lines rest front all line later f h is end done =
    sym (columns_end k n lines rest front all line later h is end) ∙ ap (λ (r : Result (Unit {0}) LogFault). with_columns front (r >>= λ _. Ok [])) (sym done)

pub columns_wrong : (k : Kinds) (n : ℕ) (lines : List (List ℕ)) (rest : List ℕ) (front : List LogStep) (all : Result (List LogStep) LogFault) (line : List ℕ) (later : List (List ℕ)) → with_columns front (columns_at k n lines rest) ≡ all → lines ≡ line ∷ later → is_word line (codes "end") ≡ false → None ≡ column_in k (words_in line) → all ≡ Err (fault.Line n)
unfolding columns_at
columns_wrong k n lines rest front all line later h is end none = sym h ∙ (ap (λ ls. with_columns front (columns_at k n ls rest)) is ∙ rw (end, sym none) refl)

one_column : (front : List LogStep) (column : LogStep) (r : Result (List LogStep) LogFault) → with_columns front (r >>= λ columns. Ok (column ∷ columns)) ≡ with_columns (front ++ column ∷ []) r
one_column front column (Ok later) = ap Ok (sym (append_assoc front (column ∷ []) later))
one_column front column (Err f) = refl

pub columns_more : (k : Kinds) (n : ℕ) (lines : List (List ℕ)) (rest : List ℕ) (front : List LogStep) (all : Result (List LogStep) LogFault) (line : List ℕ) (later : List (List ℕ)) (after : List ℕ) (column : LogStep) → with_columns front (columns_at k n lines rest) ≡ all → lines ≡ line ∷ later → rest ≡ after → is_word line (codes "end") ≡ false → Some column ≡ column_in k (words_in line) → with_columns (front ++ column ∷ []) (columns_at k (n + 1) later after) ≡ all
unfolding columns_at
columns_more k n lines rest front all line later after column h is same end some =
    rw (sym same) (sym (one_column front column (columns_at k (n + 1) later rest)) ∙ (sym (rw (end, sym some) refl) ∙ (ap (λ ls. with_columns front (columns_at k n ls rest)) (sym is) ∙ h)))

-- ---- lemmas

abbrev pub with_lemmas : List Lemma → Result Log LogFault → Result Log LogFault
with_lemmas front (Ok log) = Ok (record { version = log.version; lemmas = front ++ log.lemmas; best = log.best })
with_lemmas front (Err f) = Err f

pub log_cut : (version : ℕ) (k : Kinds) (n : ℕ) (lines : List (List ℕ)) (rest : List ℕ) (front : List Lemma) (all : Result Log LogFault) → with_lemmas front (log_at version k n lines rest) ≡ all → lines ≡ [] → all ≡ Err fault.Cut
unfolding log_at
log_cut version k n lines rest front all h is = sym h ∙ ap (λ ls. with_lemmas front (log_at version k n ls rest)) is

pub log_wrong : (version : ℕ) (k : Kinds) (n : ℕ) (lines : List (List ℕ)) (rest : List ℕ) (front : List Lemma) (all : Result Log LogFault) (line : List ℕ) (later : List (List ℕ)) → with_lemmas front (log_at version k n lines rest) ≡ all → lines ≡ line ∷ later → None ≡ entry_in k (words_in line) → all ≡ Err (fault.Line n)
unfolding log_at
log_wrong version k n lines rest front all line later h is none = sym h ∙ (ap (λ ls. with_lemmas front (log_at version k n ls rest)) is ∙ rw (sym none) refl)

one_lemma : (front : List Lemma) (lemma : Lemma) (r : Result Log LogFault) → with_lemmas front (r >>= λ later. Ok (record { version = later.version; lemmas = lemma ∷ later.lemmas; best = later.best })) ≡ with_lemmas (front ++ lemma ∷ []) r
one_lemma front lemma (Ok later) = ap (λ ls. Ok (record { version = later.version; lemmas = ls; best = later.best })) (sym (append_assoc front (lemma ∷ []) later.lemmas))
one_lemma front lemma (Err f) = refl

pub log_more : (version : ℕ) (k : Kinds) (n : ℕ) (lines : List (List ℕ)) (rest : List ℕ) (front : List Lemma) (all : Result Log LogFault) (line : List ℕ) (later : List (List ℕ)) (after : List ℕ) (lemma : Lemma) → with_lemmas front (log_at version k n lines rest) ≡ all → lines ≡ line ∷ later → rest ≡ after → Some (entry.Lemma lemma) ≡ entry_in k (words_in line) → with_lemmas (front ++ lemma ∷ []) (log_at version k (n + 1) later after) ≡ all
unfolding log_at
log_more version k n lines rest front all line later after lemma h is same some =
    rw (sym same) (sym (one_lemma front lemma (log_at version k (n + 1) later rest)) ∙ (sym (rw (sym some) refl) ∙ (ap (λ ls. with_lemmas front (log_at version k n ls rest)) (sym is) ∙ h)))

log_row : (version : ℕ) (k : Kinds) (n : ℕ) (lines : List (List ℕ)) (rest : List ℕ) (front : List Lemma) (all : Result Log LogFault) (line : List ℕ) (later : List (List ℕ)) (gaps : ℕ) → with_lemmas front (log_at version k n lines rest) ≡ all → lines ≡ line ∷ later → Some (entry.Ending (ending.Gaps gaps)) ≡ entry_in k (words_in line) → with_lemmas front (columns_at k (n + 1) later rest >>= λ steps. Ok (record { version = version; lemmas = []; best = Some (record { gaps = gaps; steps = steps }) })) ≡ all
unfolding log_at
log_row version k n lines rest front all line later gaps h is some = sym (rw (sym some) refl) ∙ (ap (λ ls. with_lemmas front (log_at version k n ls rest)) (sym is) ∙ h)

pub log_listed : (version : ℕ) (k : Kinds) (n : ℕ) (lines : List (List ℕ)) (rest : List ℕ) (front : List Lemma) (all : Result Log LogFault) (line : List ℕ) (later : List (List ℕ)) (after : List ℕ) (gaps : ℕ) (steps : List LogStep) → with_lemmas front (log_at version k n lines rest) ≡ all → lines ≡ line ∷ later → rest ≡ after → Some (entry.Ending (ending.Gaps gaps)) ≡ entry_in k (words_in line) → columns_at k (n + 1) later after ≡ Ok steps → all ≡ Ok (record { version = version; lemmas = front; best = Some (record { gaps = gaps; steps = steps }) })
log_listed version k n lines rest front all line later after gaps steps h is same some read =
    sym (log_row version k n lines rest front all line later gaps h is some) ∙ rw (same, read) (ap (λ ls. Ok (record { version = version; lemmas = ls; best = Some (record { gaps = gaps; steps = steps }) })) (append-nil front))

pub log_unlisted : (version : ℕ) (k : Kinds) (n : ℕ) (lines : List (List ℕ)) (rest : List ℕ) (front : List Lemma) (all : Result Log LogFault) (line : List ℕ) (later : List (List ℕ)) (after : List ℕ) (gaps : ℕ) (f : LogFault) → with_lemmas front (log_at version k n lines rest) ≡ all → lines ≡ line ∷ later → rest ≡ after → Some (entry.Ending (ending.Gaps gaps)) ≡ entry_in k (words_in line) → columns_at k (n + 1) later after ≡ Err f → all ≡ Err f
log_unlisted version k n lines rest front all line later after gaps f h is same some read =
    sym (log_row version k n lines rest front all line later gaps h is some) ∙ rw (same, read) refl

log_without : (version : ℕ) (k : Kinds) (n : ℕ) (lines : List (List ℕ)) (rest : List ℕ) (front : List Lemma) (all : Result Log LogFault) (line : List ℕ) (later : List (List ℕ)) → with_lemmas front (log_at version k n lines rest) ≡ all → lines ≡ line ∷ later → Some (entry.Ending ending.Open) ≡ entry_in k (words_in line) → with_lemmas front (end_at (n + 1) later rest >>= λ _. Ok (record { version = version; lemmas = []; best = None })) ≡ all
unfolding log_at
log_without version k n lines rest front all line later h is some = sym (rw (sym some) refl) ∙ (ap (λ ls. with_lemmas front (log_at version k n ls rest)) (sym is) ∙ h)

pub log_ended : (version : ℕ) (k : Kinds) (n : ℕ) (lines : List (List ℕ)) (rest : List ℕ) (front : List Lemma) (all : Result Log LogFault) (line : List ℕ) (later : List (List ℕ)) (after : List ℕ) → with_lemmas front (log_at version k n lines rest) ≡ all → lines ≡ line ∷ later → rest ≡ after → Some (entry.Ending ending.Open) ≡ entry_in k (words_in line) → Ok tt ≡ end_at (n + 1) later after → all ≡ Ok (record { version = version; lemmas = front; best = None })
log_ended version k n lines rest front all line later after h is same some read =
    sym (log_without version k n lines rest front all line later h is some) ∙ rw (same, sym read) (ap (λ ls. Ok (record { version = version; lemmas = ls; best = None })) (append-nil front))

pub log_unended : (version : ℕ) (k : Kinds) (n : ℕ) (lines : List (List ℕ)) (rest : List ℕ) (front : List Lemma) (all : Result Log LogFault) (line : List ℕ) (later : List (List ℕ)) (after : List ℕ) (f : LogFault) → with_lemmas front (log_at version k n lines rest) ≡ all → lines ≡ line ∷ later → rest ≡ after → Some (entry.Ending ending.Open) ≡ entry_in k (words_in line) → Err f ≡ end_at (n + 1) later after → all ≡ Err f
log_unended version k n lines rest front all line later after f h is same some read =
    sym (log_without version k n lines rest front all line later h is some) ∙ rw (same, sym read) refl
