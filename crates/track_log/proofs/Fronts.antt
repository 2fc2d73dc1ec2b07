-- What the lines so far add to what the later ones hold.
use Rattle.std.specs.Prelude.{ℕ, ◌≡◌, ◌+◌, true, false, List, [], ◌∷◌, ◌++◌, Some, None, Result, Ok, Err, codes}
use Rattle.std.proofs.Common.{refl, sym, ap, ◌∙◌}
use Rattle.std.proofs.lemmas.List.{append-nil, append_assoc}
use Rattle.cell_num.specs.Steps.{◌>>=◌}
use Rattle.row_state.specs.declared.kind.Kinds.{Kinds}
use Rattle.log_lines.specs.Words.{is_word, words_in}
use Rattle.bound_log.specs.declared.fault.LogFault.{LogFault}
use Rattle.bound_log.specs.declared.fault.LogFault.TheVariants as fault
use Rattle.bound_log.specs.Reading.{end_at}
use Rattle.row_cycles.specs.declared.lemma.CycleLemma.{CycleLemma}
use Rattle.track_ways.specs.declared.lemma.TrackLemma.{TrackLemma}
use Rattle.track_log.specs.declared.certificate.TrackCertificate.{TrackCertificate}
use Rattle.track_log.specs.Line.{cycle_in, lemma_in}
use Rattle.track_log.specs.Reading.{begun_by, cycles_at, lemmas_at}

abbrev pub with_lemmas : List TrackLemma → Result (List TrackLemma) LogFault → Result (List TrackLemma) LogFault
with_lemmas front (Ok later) = Ok (front ++ later)
with_lemmas front (Err f) = Err f

pub lemmas_cut : (k : Kinds) (n : ℕ) (lines : List (List ℕ)) (rest : List ℕ) (front : List TrackLemma) (all : Result (List TrackLemma) LogFault) → with_lemmas front (lemmas_at k n lines rest) ≡ all → lines ≡ [] → all ≡ Err fault.Cut
unfolding lemmas_at
lemmas_cut k n lines rest front all h is = sym h ∙ ap (λ ls. with_lemmas front (lemmas_at k n ls rest)) is

lemmas_end : (k : Kinds) (n : ℕ) (lines : List (List ℕ)) (rest : List ℕ) (front : List TrackLemma) (all : Result (List TrackLemma) LogFault) (line : List ℕ) (later : List (List ℕ)) → with_lemmas front (lemmas_at k n lines rest) ≡ all → lines ≡ line ∷ later → is_word line (codes "end") ≡ true → with_lemmas front (end_at n lines rest >>= λ _. Ok []) ≡ all
unfolding lemmas_at
lemmas_end k n lines rest front all line later h is end = rw is (sym (rw end refl) ∙ ap (λ ls. with_lemmas front (lemmas_at k n ls rest)) (sym is) ∙ h)

pub lemmas_done : (k : Kinds) (n : ℕ) (lines : List (List ℕ)) (rest : List ℕ) (front : List TrackLemma) (all : Result (List TrackLemma) LogFault) (line : List ℕ) (later : List (List ℕ)) → with_lemmas front (lemmas_at k n lines rest) ≡ all → lines ≡ line ∷ later → is_word line (codes "end") ≡ true → Ok tt ≡ end_at n lines rest → all ≡ Ok front
lemmas_done k n lines rest front all line later h is end done =
    sym (lemmas_end k n lines rest front all line later h is end) ∙ (ap (λ (r : Result (Unit {0}) LogFault). with_lemmas front (r >>= λ _. Ok [])) (sym done) ∙ ap Ok (append-nil front))

pub lemmas_open : (k : Kinds) (n : ℕ) (lines : List (List ℕ)) (rest : List ℕ) (front : List TrackLemma) (all : Result (List TrackLemma) LogFault) (line : List ℕ) (later : List (List ℕ)) (f : LogFault) → with_lemmas front (lemmas_at k n lines rest) ≡ all → lines ≡ line ∷ later → is_word line (codes "end") ≡ true → Err f ≡ end_at n lines rest → all ≡ Err f
lemmas_open k n lines rest front all line later f h is end done =
    sym (lemmas_end k n lines rest front all line later h is end) ∙ ap (λ (r : Result (Unit {0}) LogFault). with_lemmas front (r >>= λ _. Ok [])) (sym done)

pub lemmas_wrong : (k : Kinds) (n : ℕ) (lines : List (List ℕ)) (rest : List ℕ) (front : List TrackLemma) (all : Result (List TrackLemma) LogFault) (line : List ℕ) (later : List (List ℕ)) → with_lemmas front (lemmas_at k n lines rest) ≡ all → lines ≡ line ∷ later → is_word line (codes "end") ≡ false → None ≡ lemma_in k (words_in line) → all ≡ Err (fault.Line n)
unfolding lemmas_at
lemmas_wrong k n lines rest front all line later h is end none = sym h ∙ (ap (λ ls. with_lemmas front (lemmas_at k n ls rest)) is ∙ rw (end, sym none) refl)

one_lemma : (front : List TrackLemma) (lemma : TrackLemma) (r : Result (List TrackLemma) LogFault) → with_lemmas front (r >>= λ lemmas. Ok (lemma ∷ lemmas)) ≡ with_lemmas (front ++ lemma ∷ []) r
one_lemma front lemma (Ok later) = ap Ok (sym (append_assoc front (lemma ∷ []) later))
one_lemma front lemma (Err f) = refl

pub lemmas_more : (k : Kinds) (n : ℕ) (lines : List (List ℕ)) (rest : List ℕ) (front : List TrackLemma) (all : Result (List TrackLemma) LogFault) (line : List ℕ) (later : List (List ℕ)) (after : List ℕ) (lemma : TrackLemma) → with_lemmas front (lemmas_at k n lines rest) ≡ all → lines ≡ line ∷ later → rest ≡ after → is_word line (codes "end") ≡ false → Some lemma ≡ lemma_in k (words_in line) → with_lemmas (front ++ lemma ∷ []) (lemmas_at k (n + 1) later after) ≡ all
unfolding lemmas_at
lemmas_more k n lines rest front all line later after lemma h is same end some =
    rw (sym same) (sym (one_lemma front lemma (lemmas_at k (n + 1) later rest)) ∙ (sym (rw (end, sym some) refl) ∙ (ap (λ ls. with_lemmas front (lemmas_at k n ls rest)) (sym is) ∙ h)))

-- ---- lemmas on cycles

-- a certificate's lemmas on tracks, with none on cycles
abbrev pub without_cycles : ℕ → ℕ → Result (List TrackLemma) LogFault → Result TrackCertificate LogFault
without_cycles gaps tracks r = r >>= λ lemmas. Ok (record { gaps = gaps; tracks = tracks; cycles = []; lemmas = lemmas })

-- the certificate with these lemmas on cycles
abbrev with_front : TrackCertificate → List CycleLemma → Result TrackCertificate LogFault
with_front certificate cycles = Ok (record { gaps = certificate.gaps; tracks = certificate.tracks; cycles = cycles; lemmas = certificate.lemmas })

abbrev pub with_cycles : List CycleLemma → Result TrackCertificate LogFault → Result TrackCertificate LogFault
with_cycles front (Ok later) = Ok (record { gaps = later.gaps; tracks = later.tracks; cycles = front ++ later.cycles; lemmas = later.lemmas })
with_cycles front (Err f) = Err f

pub cycles_cut : (gaps tracks : ℕ) (k : Kinds) (n : ℕ) (lines : List (List ℕ)) (rest : List ℕ) (front : List CycleLemma) (all : Result TrackCertificate LogFault) → with_cycles front (cycles_at gaps tracks k n lines rest) ≡ all → lines ≡ [] → all ≡ Err fault.Cut
unfolding cycles_at
cycles_cut gaps tracks k n lines rest front all h is = sym h ∙ ap (λ ls. with_cycles front (cycles_at gaps tracks k n ls rest)) is

cycles_end : (gaps tracks : ℕ) (k : Kinds) (n : ℕ) (lines : List (List ℕ)) (rest : List ℕ) (front : List CycleLemma) (all : Result TrackCertificate LogFault) (line : List ℕ) (later : List (List ℕ)) → with_cycles front (cycles_at gaps tracks k n lines rest) ≡ all → lines ≡ line ∷ later → None ≡ cycle_in k (words_in line) → with_cycles front (without_cycles gaps tracks (lemmas_at k n lines rest)) ≡ all
unfolding cycles_at
cycles_end gaps tracks k n lines rest front all line later h is none = rw is (sym (rw (sym none) refl) ∙ ap (λ ls. with_cycles front (cycles_at gaps tracks k n ls rest)) (sym is) ∙ h)

pub cycles_done : (gaps tracks : ℕ) (k : Kinds) (n : ℕ) (lines : List (List ℕ)) (rest : List ℕ) (front : List CycleLemma) (all : Result TrackCertificate LogFault) (line : List ℕ) (later : List (List ℕ)) (lemmas : List TrackLemma) → with_cycles front (cycles_at gaps tracks k n lines rest) ≡ all → lines ≡ line ∷ later → None ≡ cycle_in k (words_in line) → lemmas_at k n lines rest ≡ Ok lemmas → all ≡ Ok (record { gaps = gaps; tracks = tracks; cycles = front; lemmas = lemmas })
cycles_done gaps tracks k n lines rest front all line later lemmas h is none done =
    sym (cycles_end gaps tracks k n lines rest front all line later h is none)
    ∙ (ap (λ (r : Result (List TrackLemma) LogFault). with_cycles front (without_cycles gaps tracks r)) done ∙ ap (with_front (record { gaps = gaps; tracks = tracks; cycles = []; lemmas = lemmas })) (append-nil front))

pub cycles_wrong : (gaps tracks : ℕ) (k : Kinds) (n : ℕ) (lines : List (List ℕ)) (rest : List ℕ) (front : List CycleLemma) (all : Result TrackCertificate LogFault) (line : List ℕ) (later : List (List ℕ)) (f : LogFault) → with_cycles front (cycles_at gaps tracks k n lines rest) ≡ all → lines ≡ line ∷ later → None ≡ cycle_in k (words_in line) → lemmas_at k n lines rest ≡ Err f → all ≡ Err f
cycles_wrong gaps tracks k n lines rest front all line later f h is none wrong =
    sym (cycles_end gaps tracks k n lines rest front all line later h is none) ∙ ap (λ (r : Result (List TrackLemma) LogFault). with_cycles front (without_cycles gaps tracks r)) wrong

one_cycle : (front : List CycleLemma) (cycle : CycleLemma) (r without : Result TrackCertificate LogFault) → with_cycles front (begun_by (Some cycle) r without) ≡ with_cycles (front ++ cycle ∷ []) r
one_cycle front cycle (Ok later) without = ap (with_front later) (sym (append_assoc front (cycle ∷ []) later.cycles))
one_cycle front cycle (Err f) without = refl

pub cycles_more : (gaps tracks : ℕ) (k : Kinds) (n : ℕ) (lines : List (List ℕ)) (rest : List ℕ) (front : List CycleLemma) (all : Result TrackCertificate LogFault) (line : List ℕ) (later : List (List ℕ)) (after : List ℕ) (cycle : CycleLemma) → with_cycles front (cycles_at gaps tracks k n lines rest) ≡ all → lines ≡ line ∷ later → rest ≡ after → Some cycle ≡ cycle_in k (words_in line) → with_cycles (front ++ cycle ∷ []) (cycles_at gaps tracks k (n + 1) later after) ≡ all
unfolding cycles_at
cycles_more gaps tracks k n lines rest front all line later after cycle h is same some =
    let without = without_cycles gaps tracks (lemmas_at k n (line ∷ later) rest) in
    rw (sym same) (sym (one_cycle front cycle (cycles_at gaps tracks k (n + 1) later rest) without) ∙ (sym (rw (sym some) refl) ∙ (ap (λ ls. with_cycles front (cycles_at gaps tracks k n ls rest)) (sym is) ∙ h)))
