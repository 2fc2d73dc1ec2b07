-- A search of paired fingers has few lemmas, so that it does not spend a budget that is larger.
use Rattle.std.specs.Prelude.{ℕ, zero, suc, ◌≡◌, ◌<◌, ◌≤◌, List, [], ◌∷◌, length, All, get_or}
use Rattle.std.proofs.Common.{refl, sym, ap, subst, arith, ◌∙◌}
use Rattle.std.proofs.lemmas.List.Elements.{All-head, All-tail}
use Rattle.cell_num.specs.declared.finger.Fingers.{Fingers}
use Rattle.cell_num.specs.declared.finger.Row.{Row}
use Rattle.row_state.specs.declared.kind.Kinds.{Kinds}
use Rattle.row_state.specs.declared.state.State.{State}
use Rattle.row_state.specs.Start.{AreKinds, AreSomeKinds, IsState}
use Rattle.bound_log.specs.declared.log.Lemma.{Lemma}
use Rattle.bound_log.specs.declared.log.Log.{Log}
use Rattle.log_check.specs.Accepted.{IsTrueOf}
use Rattle.log_check.proofs.Sound.{sound}
use Rattle.row_search.specs.Ended.{AreDistinct, IsSpent}
use Rattle.row_search.proofs.Few.{few_numbers}
use Rattle.row_search.proofs.Least.{states_of}
use Rattle.bench_command.specs.Paired.{ArePaired, IsBound, nodes_enough}
use Rattle.bench_command.proofs.Coded.{code_of}
use Rattle.bench_command.proofs.Codes.{IsCode, code_below, same_code}
use Rattle.bench_command.proofs.FewKinds.{HasPairs, has_pairs}

-- a lemma with its number
record Coded (k : Kinds) : Type 0 where
  pub lemma : Lemma
  pub code : ℕ
  pub valid : IsState k lemma.state
  pub is : IsCode k lemma code

abbrev HasCode : Kinds → Lemma → Type 0
HasCode k lemma = (code : ℕ) × IsState k lemma.state × IsCode k lemma code

abbrev coded : (k : Kinds) (lemmas : List Lemma) → All (HasCode k) lemmas → List (Coded k)
coded k [] h = []
coded k (lemma ∷ lemmas) h =
    let first : HasCode k lemma = All-head (HasCode k) lemma lemmas h in
    record { lemma = lemma; code = first.0; valid = first.1; is = first.2 } ∷ coded k lemmas (All-tail (HasCode k) lemma lemmas h)

coded_length : (k : Kinds) (lemmas : List Lemma) (h : All (HasCode k) lemmas) → length (coded k lemmas h) ≡ length lemmas
coded_length k [] h = refl
coded_length k (lemma ∷ lemmas) h = ap suc (coded_length k lemmas (All-tail (HasCode k) lemma lemmas h))

coded_at : (k : Kinds) (lemmas : List Lemma) (h : All (HasCode k) lemmas) (i : ℕ) (d : Coded k) → (get_or (coded k lemmas h) i d).lemma ≡ get_or lemmas i d.lemma
coded_at k [] h i d = refl
coded_at k (lemma ∷ lemmas) h zero d = refl
coded_at k (lemma ∷ lemmas) h (suc i) d = coded_at k lemmas (All-tail (HasCode k) lemma lemmas h) i d

few_lemmas : (k : Kinds) (lemmas : List Lemma) → HasPairs k → AreDistinct lemmas → All (HasCode k) lemmas → length lemmas ≤ 184330
few_lemmas k lemmas pairs distinct h = omega (arith, coded_length k lemmas h, few_numbers (λ (c : Coded k). c.code) 184330 all apart below)
  where
    all : List (Coded k)
    all = coded k lemmas h

    apart : (i j : ℕ) (d : Coded k) → i < j → j < length (coded k lemmas h) → (get_or (coded k lemmas h) i d).code ≡ (get_or (coded k lemmas h) j d).code → ⊥
    apart i j d less within e =
        let a = get_or (coded k lemmas h) i d in
        let b = get_or (coded k lemmas h) j d in
        let same = same_code k a.lemma b.lemma b.code pairs a.valid b.valid (subst (IsCode k a.lemma) e a.is) b.is in
        let here = coded_at k lemmas h i d in
        let there = coded_at k lemmas h j d in
        let states = ap (λ (l : Lemma). l.state) (sym here) ∙ (same.0 ∙ ap (λ (l : Lemma). l.state) there) in
        let bounds = ap (λ (l : Lemma). l.bound) (sym here) ∙ (same.1 ∙ ap (λ (l : Lemma). l.bound) there) in
        distinct i j d.lemma less (omega (arith, within, coded_length k lemmas h)) states bounds

    below : All (λ (c : Coded k). c.code < 184330) (coded k lemmas h)
    below i d within = let c = get_or (coded k lemmas h) i d in code_below k c.lemma c.code pairs c.valid c.is

pub never_spent : (value : Row → State → Kinds → ℕ) (f : Fingers) (k : Kinds) (budget proved : ℕ) (log : Log) → IsBound value k → ArePaired f → AreKinds f k → AreSomeKinds k → nodes_enough ≤ budget → IsSpent value k f budget log proved → ⊥
never_spent value f k budget proved log law paired kinds some enough spent =
    let pairs : HasPairs k = has_pairs f k paired kinds some in
    let searched = spent.searched in
    let true_of : All (IsTrueOf k) log.lemmas = sound value k log.lemmas law searched.justified in
    let valid : All (λ (l : Lemma). IsState k l.state) log.lemmas = states_of value k log.lemmas searched.justified in
    let codes : All (HasCode k) log.lemmas = λ i d within.
    let lemma = get_or log.lemmas i d in
    let reached = (searched.reached i d within).reached in
    let code = code_of k lemma reached.prefix reached.rest pairs some (valid i d within) (true_of i d within) (searched.range i d within).0 reached.completes reached.state in
    (code.0, valid i d within, code.1) in
    absurd (omega (arith, spent.many, few_lemmas k log.lemmas pairs searched.distinct codes, paired.few, enough))
