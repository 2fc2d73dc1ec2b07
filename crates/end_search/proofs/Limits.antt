-- One number of ends after another.
use Rattle.std.specs.Prelude.{ℕ, ◌≡◌, ◌≢◌, ◌+◌, ◌-◌, ◌*◌, ◌<◌, ◌≤◌, List, [], ◌∷◌, ◌++◌, All, ◌/◌}
use Rattle.std.proofs.Common.{refl, sym, ap, subst, arith, ◌∙◌, inl, inr}
use Rattle.std.proofs.lemmas.List.Elements.{All-append, All-contains, All-nil, All-push, Contains-append_cases, Contains-push, Contains-push_cases}
use Rattle.cell_num.proofs.Lists.{contains_none}
use Rattle.cell_num.proofs.Pairs.{Some', any_append_left, any_at, some_from_any}
use Rattle.end_lemmas.specs.declared.lemma.EndLemma.{EndLemma}
use Rattle.end_lemmas.specs.Indexed.{IsIndexOf}
use Rattle.end_lemmas.specs.Justified.{AreEndsProved, AreJustified, IsAtStart, IsJustified, IsKnown, Says}
use Rattle.end_lemmas.specs.Steps.{Steps}
use Rattle.end_lemmas.proofs.Sound.{ends_true}
use Rattle.end_search.specs.declared.progress.Progress.{Progress}
use Rattle.end_search.specs.declared.proof.EndProof.{EndProof}
use Rattle.end_search.specs.declared.proof.SearchEnd.{SearchEnd}
use Rattle.end_search.specs.declared.proof.SearchEnd.TheVariants as ended
use Rattle.end_search.specs.New.{AreNew}
use Rattle.end_search.specs.Proof.{EndsAs, IsEndProof, gaps_proved, next_need, proof_of}
use Rattle.end_search.specs.Reached.{HasFewer, IsReached}
use Rattle.end_search.specs.Search.{AreKept, AreSpent, IsFurther, lemma_of}
use Rattle.end_search.specs.Units.{path_units, units_at, units_of}
use Rattle.end_search.proofs.Choices.{reached_start, wider}
use Rattle.end_lemmas.proofs.First.{none_justified}
use Rattle.end_search.proofs.Grown.{new_none}
use Rattle.end_search.proofs.Kept.{kept_push}
use Rattle.end_search.proofs.Spending.{units_none, units_push}

module _ {S : Type 0} (s : S) where
  ends_none : AreEndsProved s [] 0
  ends_none = record { most = λ l there at. absurd (contains_none l there); one = inl refl }

  -- lemmas on later states prove no more
  ends_still : (lemmas more : List (EndLemma S)) (ends : ℕ) → AreEndsProved s lemmas ends
      → All (λ (l : EndLemma S). 0 < l.done) more → AreEndsProved s (lemmas ++ more) ends
  ends_still lemmas more ends h later = record {
    most = λ l there at. elim (Contains-append_cases lemmas more l there) [
      | inl before ↦ h.most l before at
      | inr after ↦
          let behind : 0 < l.done = All-contains (λ (x : EndLemma S). 0 < x.done) more l later after in
          omega (arith, behind, at.levels)
    ];
    one = elim h.one [
      | inl none ↦ inl none
      | inr any ↦ inr (any_append_left (λ (l : EndLemma S). IsAtStart s l × (l.bound ≡ ends)) lemmas more any)
    ];
  }

  -- one more on the start
  ends_push : (lemmas : List (EndLemma S)) (ends need : ℕ) → AreEndsProved s lemmas ends → ends < need
      → AreEndsProved s (lemmas ++ lemma_of 0 s need ∷ []) need
  ends_push lemmas ends need h more =
      let last : EndLemma S = lemma_of 0 s need in
      record {
        most = λ l there at. elim (Contains-push_cases lemmas last l there) [
          | inl before ↦ omega (arith, h.most l before at, more)
          | inr same ↦ subst (λ (x : EndLemma S). x.bound ≤ need) same (omega arith)
        ];
        one = inr (any_at (λ (l : EndLemma S). IsAtStart s l × (l.bound ≡ need)) (lemmas ++ last ∷ []) last (Contains-push lemmas last) (record { levels = refl; same = refl }, refl));
      }

  unknown_start : (lemmas : List (EndLemma S)) (ends need : ℕ) → AreEndsProved s lemmas ends → ends < need
      → IsKnown lemmas 0 s need → ⊥
  unknown_start lemmas ends need h more (inl none) = omega (arith, more, none)
  unknown_start lemmas ends need h more (inr any) =
      let found : Some' (Says 0 s need) lemmas = some_from_any (Says 0 s need) lemmas any in
      let few : found.it.bound ≤ ends =
      h.most found.it found.there (record { levels = found.holds.levels; same = found.holds.same }) in
      omega (arith, few, more, found.holds.enough)

-- after so many gaps
ends_below : (ends gaps need : ℕ) → (ends - 1) / 2 ≡ gaps → need ≡ 2 * gaps + 3 → ends < need
ends_below ends gaps need is at = omega (arith, is, at)

next_gaps : (gaps need : ℕ) → need ≡ 2 * gaps + 3 → (need - 1) / 2 ≡ gaps + 1
next_gaps gaps need is = omega (arith, is)

module _ {L C S : Type 0} (steps : Steps L C S) (number : ℕ → S → ℕ) (levels : List L) (s : S) (budget : ℕ) where
  -- so many gaps are proved, by lemmas alone
  pub record HasProved (progress : Progress S) (ends gaps : ℕ) : Type 0 where
    pub kept : AreKept steps number levels progress
    pub ends_are : AreEndsProved s progress.lemmas ends
    pub gaps_are : gaps_proved ends ≡ gaps
    pub reached : All (IsReached steps levels 0 s (2 * gaps + 3)) progress.lemmas
    pub units : progress.left + units_of steps levels progress.lemmas ≡ budget

  -- none at first
  pub proved_none : (p : Progress S) → p.lemmas ≡ [] → IsIndexOf number [] p.index → p.left ≡ budget
      → HasProved p 0 0
  proved_none p none index left = record {
    kept = record {
      justified = subst (λ (ls : List (EndLemma S)). AreJustified steps levels ls) (sym none) (none_justified steps levels);
      new = subst (λ (ls : List (EndLemma S)). AreNew ls) (sym none) new_none;
      indexed = subst (λ (ls : List (EndLemma S)). IsIndexOf number ls p.index) (sym none) index;
    };
    ends_are = subst (λ (ls : List (EndLemma S)). AreEndsProved s ls 0) (sym none) (ends_none s);
    gaps_are = refl;
    reached = subst (All (IsReached steps levels 0 s 3)) (sym none) (All-nil (IsReached steps levels 0 s 3));
    units = omega (arith, left, ap (units_of steps levels) none, units_none steps levels);
  }

  -- what a visit of the start adds is reached
  reached_all : (a b : Progress S) (ends gaps need : ℕ) → HasProved a ends gaps → need ≡ 2 * gaps + 3
      → IsFurther steps number levels 0 s need a b → All (IsReached steps levels 0 s (2 * gaps + 3)) b.lemmas
  reached_all a b ends gaps need h is g =
      subst (All (IsReached steps levels 0 s (2 * gaps + 3))) (sym g.grown)
      (All-append (IsReached steps levels 0 s (2 * gaps + 3)) a.lemmas g.more h.reached
      (subst (λ (n : ℕ). All (IsReached steps levels 0 s n) g.more) is g.reached))

  still_proved : (a b : Progress S) (ends gaps need : ℕ) → HasProved a ends gaps
      → IsFurther steps number levels 0 s need a b → AreEndsProved s b.lemmas ends
  still_proved a b ends gaps need h g =
      subst (λ (ls : List (EndLemma S)). AreEndsProved s ls ends) (sym g.grown)
      (ends_still s a.lemmas g.more ends h.ends_are g.later)

  -- one gap more
  pub proved_more : (a b c : Progress S) (t : S) (ends gaps need : ℕ) → t ≡ s → HasProved a ends gaps
      → need ≡ 2 * gaps + 3 → IsFurther steps number levels 0 t need a b
      → IsJustified steps levels b.lemmas (lemma_of 0 t need)
      → b.left + units_of steps levels b.lemmas + units_at steps levels 0 ≡ a.left + units_of steps levels a.lemmas
      → c.lemmas ≡ b.lemmas ++ lemma_of 0 t need ∷ [] → IsIndexOf number c.lemmas c.index → c.left ≡ b.left
      → HasProved c need (gaps + 1)
  proved_more a b c t ends gaps need same h is g0 justified0 went more0 index left =
      let g : IsFurther steps number levels 0 s need a b = subst (λ (u : S). IsFurther steps number levels 0 u need a b) same g0 in
      let l : EndLemma S = lemma_of 0 s need in
      let more : c.lemmas ≡ b.lemmas ++ l ∷ [] = subst (λ (u : S). c.lemmas ≡ b.lemmas ++ lemma_of 0 u need ∷ []) same more0 in
      let justified : IsJustified steps levels b.lemmas l = subst (λ (u : S). IsJustified steps levels b.lemmas (lemma_of 0 u need)) same justified0 in
      let above : ends < need = ends_below ends gaps need h.gaps_are is in
      let still : AreEndsProved s b.lemmas ends = still_proved a b ends gaps need h g in
      let units : units_of steps levels c.lemmas ≡ units_of steps levels b.lemmas + units_at steps levels 0 =
      ap (units_of steps levels) more ∙ units_push steps levels b.lemmas l in
      let here : All (IsReached steps levels 0 s (2 * gaps + 3)) (b.lemmas ++ l ∷ []) =
      All-push (IsReached steps levels 0 s (2 * gaps + 3)) b.lemmas l (reached_all a b ends gaps need h is g)
      (subst (λ (n : ℕ). IsReached steps levels 0 s n l) is (reached_start steps levels s need)) in
      record {
        kept = kept_push steps number levels b c 0 s need g.kept (omega (arith, above))
            (unknown_start s b.lemmas ends need still above) justified more index;
        ends_are = subst (λ (ls : List (EndLemma S)). AreEndsProved s ls need) (sym more)
            (ends_push s b.lemmas ends need still above);
        gaps_are = next_gaps gaps need is;
        reached = subst (All (IsReached steps levels 0 s (2 * (gaps + 1) + 3))) (sym more)
            (wider steps levels s (2 * gaps + 3) (2 * (gaps + 1) + 3) (b.lemmas ++ l ∷ []) (omega arith) here);
        units = omega (arith, units, left, went, h.units);
      }

  ends_next : (ends gaps : ℕ) → (ends - 1) / 2 ≡ gaps → 2 * gaps + 3 ≡ next_need ends
  ends_next ends gaps is = omega (arith, is)

  -- some choices result in fewer ends than prove a gap more
  pub fewer_start : (t : S) (ends gaps need : ℕ) → t ≡ s → (ends - 1) / 2 ≡ gaps → need ≡ 2 * gaps + 3
      → HasFewer steps levels t need → HasFewer steps levels s (next_need ends)
  fewer_start t ends gaps need same are is few =
      let next : need ≡ next_need ends = is ∙ ends_next ends gaps are in
      subst (λ (u : S). HasFewer steps levels u (next_need ends)) same
      (subst (HasFewer steps levels t) next few)

  -- the search ends
  pub proof_is : (most : ℕ) (p : Progress S) (ends gaps : ℕ) (end : SearchEnd) (proof : EndProof S)
      → proof ≡ proof_of p.lemmas ends p.left end → AreKept steps number levels p → AreEndsProved s p.lemmas ends
      → gaps_proved ends ≡ gaps → All (IsReached steps levels 0 s (2 * gaps + 3)) p.lemmas
      → p.left + units_of steps levels p.lemmas ≤ budget
      → budget ≤ p.left + units_of steps levels p.lemmas + path_units steps levels
      → EndsAs steps levels s most ends p.left end → (end ≢ ended.Asked → gaps < most)
      → IsEndProof steps levels s most budget proof
  proof_is most p ends gaps end proof is kept are gaps_are reached few many so more =
      subst (IsEndProof steps levels s most budget) (sym is) (record {
        justified = kept.justified;
        ends_are = are;
        least = ends_true steps levels p.lemmas s ends kept.justified are;
        end_is = so;
        more_asked = λ other. omega (arith, gaps_are, more other);
        new = kept.new;
        reached = subst (λ (n : ℕ). All (IsReached steps levels 0 s n) p.lemmas) (ends_next ends gaps gaps_are) reached;
        few_units = few;
        many_units = many;
      })

  -- at a visit of the start
  pub proof_stopped : (most : ℕ) (a b : Progress S) (t : S) (ends gaps need : ℕ) (end : SearchEnd) (proof : EndProof S)
      → t ≡ s → proof ≡ proof_of b.lemmas ends b.left end → HasProved a ends gaps → need ≡ 2 * gaps + 3
      → IsFurther steps number levels 0 t need a b → AreSpent steps levels a b (path_units steps levels)
      → EndsAs steps levels s most ends b.left end → gaps < most → IsEndProof steps levels s most budget proof
  proof_stopped most a b t ends gaps need end proof same is h at g0 spent so more =
      let g : IsFurther steps number levels 0 s need a b = subst (λ (u : S). IsFurther steps number levels 0 u need a b) same g0 in
      proof_is most b ends gaps end proof is g.kept (still_proved a b ends gaps need h g) h.gaps_are
      (reached_all a b ends gaps need h at g) (omega (arith, spent.few, h.units)) (omega (arith, spent.many, h.units)) so
      (λ other. more)

  -- at the last number
  pub proof_whole : (most : ℕ) (p : Progress S) (ends gaps : ℕ) (proof : EndProof S)
      → proof ≡ proof_of p.lemmas ends p.left ended.Asked → HasProved p ends gaps → gaps_proved ends ≡ most
      → IsEndProof steps levels s most budget proof
  proof_whole most p ends gaps proof is h so =
      proof_is most p ends gaps ended.Asked proof is h.kept h.ends_are h.gaps_are h.reached (omega (arith, h.units))
      (omega (arith, h.units)) so (λ other. absurd (other refl))
