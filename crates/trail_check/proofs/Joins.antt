-- Two trails that meet are one: at their ends, or anywhere where one of them ends where it begins.
use Rattle.std.proofs.Common.{ℕ, ◌≡◌, ◌+◌, ◌<◌, ◌==◌, ◌||◌, ◌&&◌, Bool, true, List, [], ◌∷◌, ◌++◌, append_assoc}
use Rattle.std.proofs.Common.{length, length-append, refl, sym, ap, subst, arith, ◌∙◌, inl, inr}
use Rattle.std.proofs.Common.{IsPermutation}
use Rattle.std.specs.List.{list_any}
use Rattle.std.proofs.lemmas.Bool.{and_parts, eq-eqb, eqb-true, or_cases, or_left, or_right}
use Rattle.std.proofs.lemmas.List.Sorted.{IsPermutation-append, IsPermutation-append_comm, IsPermutation-append_left}
use Rattle.std.proofs.lemmas.List.Sorted.{IsPermutation-refl}
use Rattle.std.proofs.lemmas.List.Sorted.{IsPermutation-trans}
use Rattle.cell_num.proofs.Pairs.{Some', test_finds, test_there}
use Rattle.trail_check.proofs.Steps.{Cut, Runs, Step, cut_at, edges, edges_append, edges_turned, is_at, is_on}
use Rattle.trail_check.proofs.Steps.{runs_append, runs_turned, turned}

-- some steps, each from where the one before it ends
pub record Trail : Type 0 where
  pub first : ℕ
  pub last : ℕ
  pub steps : List Step
  pub runs : Runs first last steps
  pub some : 0 < length steps

abbrev pub is_closed : Trail → Bool
is_closed t = t.first == t.last

-- both trails pass the node of some step
abbrev pub share : Trail → Trail → Bool
share s t = list_any (λ (a : Step). is_on t.steps a.0 || is_on t.steps a.1) s.steps

abbrev pub have_end : Trail → Trail → Bool
have_end s t = (s.first == t.first) || (s.first == t.last) || (s.last == t.first) || (s.last == t.last)

abbrev pub meet : Trail → Trail → Bool
meet s t = have_end s t || (is_closed s && share s t) || (is_closed t && share s t)

module _ {X : Type 0} (edge : ℕ → ℕ → X) (alike : (l r : ℕ) → edge l r ≡ edge r l) where
  abbrev pub edges_in : Trail → List X
  edges_in t = edges edge alike t.steps

  -- a trail with the edges of both
  pub record Joined (s t : Trail) : Type 0 where
    pub it : Trail
    pub same : IsPermutation (edges_in s ++ edges_in t) (edges_in it)

  long : (w x : List Step) → 0 < length w → 0 < length (w ++ x)
  long w x some = omega (arith, some, length-append w x)

  turn : Trail → Trail
  turn t = record {
    first = t.last;
    last = t.first;
    steps = turned t.steps;
    runs = runs_turned t.first t.last t.steps t.runs;
    some = turned_some t.steps t.some;
  }
    where
      turned_some : (w : List Step) → 0 < length w → 0 < length (turned w)
      turned_some [] some = some
      turned_some ((l, r) ∷ w) some = omega (arith, length-append (turned w) ((r, l) ∷ []))

  turn_same : (t : Trail) → IsPermutation (edges_in t) (edges_in (turn t))
  unfolding turn
  turn_same t = edges_turned edge alike t.steps

  turn_first : (t : Trail) → (turn t).first ≡ t.last
  unfolding turn
  turn_first t = refl

  turn_last : (t : Trail) → (turn t).last ≡ t.first
  unfolding turn
  turn_last t = refl

  -- the second after the first
  follow : (s t : Trail) → s.last ≡ t.first → Joined s t
  follow s t e = record {
    it = record {
      first = s.first;
      last = t.last;
      steps = s.steps ++ t.steps;
      runs = runs_append s.first t.first t.last s.steps t.steps (subst (λ v. Runs s.first v s.steps) e s.runs) t.runs;
      some = long s.steps t.steps s.some;
    };
    same =
        subst (IsPermutation (edges_in s ++ edges_in t)) (sym (edges_append edge alike s.steps t.steps))
        (IsPermutation-refl (edges_in s ++ edges_in t));
  }

  -- of trails with the same edges
  moved : (s t s' t' : Trail) → IsPermutation (edges_in s) (edges_in s') → IsPermutation (edges_in t) (edges_in t')
      → Joined s' t' → Joined s t
  moved s t s' t' a b j = record {
    it = j.it;
    same =
        IsPermutation-trans (edges_in s ++ edges_in t) (edges_in s' ++ edges_in t') (edges_in j.it)
        (IsPermutation-append (edges_in s) (edges_in s') (edges_in t) (edges_in t') a b) j.same;
  }

  exchanged : (s t : Trail) → Joined t s → Joined s t
  exchanged s t j = record {
    it = j.it;
    same =
        IsPermutation-trans (edges_in s ++ edges_in t) (edges_in t ++ edges_in s) (edges_in j.it)
        (IsPermutation-append_comm (edges_in s) (edges_in t)) j.same;
  }

  at_ends : (s t : Trail) → have_end s t ≡ true → Joined s t
  at_ends s t h =
      elim (or_cases ((s.first == t.first) || (s.first == t.last) || (s.last == t.first)) (s.last == t.last) h) [
        | inr both_last ↦ moved s t s (turn t) (IsPermutation-refl (edges_in s)) (turn_same t)
            (follow s (turn t) (eqb-true s.last t.last both_last ∙ sym (turn_first t)))
        | inl a ↦ elim (or_cases ((s.first == t.first) || (s.first == t.last)) (s.last == t.first) a) [
          | inr then ↦ follow s t (eqb-true s.last t.first then)
          | inl b ↦ elim (or_cases (s.first == t.first) (s.first == t.last) b) [
            | inl both_first ↦ moved s t (turn s) t (turn_same s) (IsPermutation-refl (edges_in t))
                (follow (turn s) t (turn_last s ∙ eqb-true s.first t.first both_first))
            | inr before ↦ exchanged s t (follow t s (sym (eqb-true s.first t.last before)))
          ]
        ]
      ]

  -- a closed trail from another of its nodes
  record Round (v : ℕ) (t : Trail) : Type 0 where
    pub steps : List Step
    pub runs : Runs v v steps
    pub same : IsPermutation (edges_in t) (edges edge alike steps)

  round : (v : ℕ) (t : Trail) → t.first ≡ t.last → is_on t.steps v ≡ true → Round v t
  round v t closed on =
      let c : Cut t.first t.last v t.steps = cut_at v t.first t.last t.steps t.runs on in
      let parts : edges_in t ≡ edges edge alike c.before ++ edges edge alike c.after =
      ap (edges edge alike) c.is ∙ edges_append edge alike c.before c.after in
      record {
        steps = c.after ++ c.before;
        runs = runs_append v t.first v c.after c.before (subst (λ u. Runs v u c.after) (sym closed) c.from) c.to;
        same = subst (λ es. IsPermutation es (edges edge alike (c.after ++ c.before))) (sym parts)
            (subst (IsPermutation (edges edge alike c.before ++ edges edge alike c.after))
            (sym (edges_append edge alike c.after c.before))
            (IsPermutation-append_comm (edges edge alike c.before) (edges edge alike c.after)));
      }

  -- the closed trail s goes where t passes the node
  spliced : (v : ℕ) (s t : Trail) → s.first ≡ s.last → is_on s.steps v ≡ true → is_on t.steps v ≡ true → Joined s t
  spliced v s t closed on_s on_t =
      let o : Round v s = round v s closed on_s in
      let c : Cut t.first t.last v t.steps = cut_at v t.first t.last t.steps t.runs on_t in
      let all : List Step = c.before ++ (o.steps ++ c.after) in
      let eb : List X = edges edge alike c.before in
      let eo : List X = edges edge alike o.steps in
      let ea : List X = edges edge alike c.after in
      let parts : edges_in t ≡ eb ++ ea = ap (edges edge alike) c.is ∙ edges_append edge alike c.before c.after in
      let whole : edges edge alike all ≡ eb ++ (eo ++ ea) =
      edges_append edge alike c.before (o.steps ++ c.after) ∙ ap (λ es. eb ++ es)
      (edges_append edge alike o.steps c.after) in
      let split : length t.steps ≡ length c.before + length c.after = ap length c.is ∙ length-append c.before c.after in
      let long_all : length all ≡ length c.before + (length o.steps + length c.after) =
      length-append c.before (o.steps ++ c.after) ∙ ap (λ m. length c.before + m) (length-append o.steps c.after) in
      let swapped : IsPermutation (eo ++ (eb ++ ea)) (eb ++ (eo ++ ea)) =
      subst (λ es. IsPermutation es (eb ++ (eo ++ ea))) (append_assoc eo eb ea)
      (subst (IsPermutation ((eo ++ eb) ++ ea)) (append_assoc eb eo ea)
      (IsPermutation-append_left ea (eo ++ eb) (eb ++ eo) (IsPermutation-append_comm eo eb))) in
      let together : IsPermutation (edges_in s ++ (eb ++ ea)) (eb ++ (eo ++ ea)) =
      IsPermutation-trans (edges_in s ++ (eb ++ ea)) (eo ++ (eb ++ ea)) (eb ++ (eo ++ ea))
      (IsPermutation-append_left (eb ++ ea) (edges_in s) eo o.same) swapped in
      record {
        it = record {
          first = t.first;
          last = t.last;
          steps = all;
          runs =
              runs_append t.first v t.last c.before (o.steps ++ c.after) c.to
              (runs_append v v t.last o.steps c.after o.runs c.from);
          some = omega (arith, t.some, split, long_all);
        };
        same =
            subst (λ es. IsPermutation (edges_in s ++ es) (edges edge alike all)) (sym parts)
            (subst (IsPermutation (edges_in s ++ (eb ++ ea))) (sym whole) together);
      }

  -- a node that both pass
  record Shared (s t : Trail) : Type 0 where
    pub v : ℕ
    pub on_s : is_on s.steps v ≡ true
    pub on_t : is_on t.steps v ≡ true

  shared : (s t : Trail) → share s t ≡ true → Shared s t
  shared s t h =
      let f : Some' (λ (a : Step). (is_on t.steps a.0 || is_on t.steps a.1) ≡ true) s.steps =
      test_finds (λ (a : Step). is_on t.steps a.0 || is_on t.steps a.1) s.steps h in
      elim (or_cases (is_on t.steps f.it.0) (is_on t.steps f.it.1) f.holds) [
        | inl a ↦ record {
          v = f.it.0;
          on_s = test_there (is_at f.it.0) s.steps f.it f.there
              (or_left (f.it.0 == f.it.0) (f.it.1 == f.it.0) (eq-eqb f.it.0 f.it.0 refl));
          on_t = a;
        }
        | inr b ↦ record {
          v = f.it.1;
          on_s = test_there (is_at f.it.1) s.steps f.it f.there
              (or_right (f.it.0 == f.it.1) (f.it.1 == f.it.1) (eq-eqb f.it.1 f.it.1 refl));
          on_t = b;
        }
      ]

  pub join : (s t : Trail) → meet s t ≡ true → Joined s t
  join s t h =
      elim (or_cases (have_end s t || (is_closed s && share s t)) (is_closed t && share s t) h) [
        | inl a ↦ elim (or_cases (have_end s t) (is_closed s && share s t) a) [
          | inl ends ↦ at_ends s t ends
          | inr first ↦
              let parts : (is_closed s ≡ true) × (share s t ≡ true) = and_parts (is_closed s) (share s t) first in
              let at : Shared s t = shared s t parts.1 in
              spliced at.v s t (eqb-true s.first s.last parts.0) at.on_s at.on_t
        ]
        | inr second ↦
            let parts : (is_closed t ≡ true) × (share s t ≡ true) = and_parts (is_closed t) (share s t) second in
            let at : Shared s t = shared s t parts.1 in
            exchanged s t (spliced at.v t s (eqb-true t.first t.last parts.0) at.on_t at.on_s)
      ]
