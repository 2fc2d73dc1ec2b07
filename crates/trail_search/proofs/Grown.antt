-- Lemmas that justify others do so still where more are kept.
use Rattle.std.specs.Prelude.{ℕ, ◌≡◌, ◌+◌, ◌-◌, ◌<◌, ◌≤◌, ◌==◌, ◌||◌, Bool, true, false, nat_le, List, [], ◌∷◌, ◌++◌, Option, Some, None, All, AllPairs, length, slice_get, take}
use Rattle.std.proofs.Math.Bool.{beq}
use Rattle.std.specs.List.{list_all, list_any}
use Rattle.std.proofs.Common.{refl, sym, ap, subst, arith, ◌∙◌, inl, inr, get_or, append_assoc, append-nil}
use Rattle.std.proofs.lemmas.List.{map-append, take_all}
use Rattle.std.proofs.lemmas.Bool.{and_from, cases_Bool, eq-eqb, or_left, or_right}
use Rattle.std.proofs.lemmas.List.Elements.{All-head, All-more, All-push, All-tail, All-weaker}
use Rattle.std.proofs.lemmas.List.Folds.{list_any-append}
use Rattle.trail_state.specs.declared.edge.Edge.{Edge}
use Rattle.trail_state.specs.declared.edge.Node.{Node}
use Rattle.trail_state.specs.declared.state.Place.{Place}
use Rattle.trail_state.specs.Settling.{ends_after, state_after}
use Rattle.trail_state.specs.declared.level.Level.{Level}
use Rattle.trail_log.specs.declared.trails.LemmaLine.{LemmaLine}
use Rattle.trail_log.specs.Fits.{LemmaFits}
use Rattle.trail_check.specs.declared.lemma.TrailLemma.{TrailLemma}
use Rattle.trail_check.specs.declared.closing.ClosingNode.{ClosingNode}
use Rattle.trail_check.specs.Closing.{closing_nodes, odd_ends}
use Rattle.trail_check.proofs.OddEnds.{reached_odd}
use Rattle.trail_check.specs.Indexed.{IsIndexOf}
use Rattle.trail_check.specs.Justified.{choice_reaches, is_justified, is_known, level_reaches, same_place, same_state, says, unproved}
use Rattle.trail_check.specs.Listed.{lemma_listed, lemmas_listed, nodes_of}
use Rattle.trail_search.specs.declared.kept.Kept.{Kept}
use Rattle.trail_search.specs.Line.{line_of}
use Rattle.trail_search.specs.Search.{AreChained, AreKept, AreNew, IsFurther, IsStateOf, lemma_of}
use Rattle.trail_search.proofs.Lines.{line_fits}
use Rattle.trail_search.proofs.StateListed.{lemma_back}
use Rattle.trail_search.proofs.New.{new_more}
use Rattle.trail_search.proofs.States.{state_next}

-- ---- what is known

-- an or by its parts
or_either : (a b : Bool) → ◌≡◌ {A = Bool} (a || b) true → (a ≡ false → b ≡ true)
or_either true b h off = absurd cc
or_either false b h off = h

known_more : (earlier more : List TrailLemma) (done : ℕ) (s : List Place) (need : ℕ) → is_known earlier done s need ≡ true → is_known (earlier ++ more) done s need ≡ true
known_more earlier more done s need h =
    elim (cases_Bool (need == 0)) [
      | inl on ↦ or_left (need == 0) (list_any (says done s need) (earlier ++ more)) on
      | inr off ↦
          let some : list_any (says done s need) earlier ≡ true = or_either (need == 0) (list_any (says done s need) earlier) h off in
          or_right (need == 0) (list_any (says done s need) (earlier ++ more)) (list_any-append (says done s need) earlier more ∙ or_left (list_any (says done s need) earlier) (list_any (says done s need) more) some)
    ]

flag_self : (a : Bool) → beq a a ≡ true
flag_self true = refl
flag_self false = refl

place_self : (p : Place) → same_place p p ≡ true
place_self p = and_from _ _ (and_from _ _ (and_from _ _ (eq-eqb p.node.0 p.node.0 refl) (eq-eqb p.class.0 p.class.0 refl)) (flag_self p.odd)) (flag_self p.flagged)

state_self : (s : List Place) → same_state s s ≡ true
state_self [] = refl
state_self (p ∷ s) = and_from (same_place p p) (same_state s s) (place_self p) (state_self s)

-- a lemma that is kept is known
known_last : (earlier : List TrailLemma) (done : ℕ) (s : List Place) (bound : ℕ) → is_known (earlier ++ lemma_of done s bound ∷ []) done s bound ≡ true
known_last earlier done s bound =
    let it : says done s bound (lemma_of done s bound) ≡ true = and_from _ _ (and_from _ _ (eq-eqb done done refl) (state_self s)) (leb-self bound) in
    or_right (bound == 0) (list_any (says done s bound) (earlier ++ lemma_of done s bound ∷ []))
    (list_any-append (says done s bound) earlier (lemma_of done s bound ∷ []) ∙ or_right (list_any (says done s bound) earlier) (list_any (says done s bound) (lemma_of done s bound ∷ [])) (or_left (says done s bound (lemma_of done s bound)) false it))
  where
    leb-self : (n : ℕ) → nat_le n n ≡ true
    leb-self n = grind arith

-- ---- lemmas one after another

justified_push : (levels : List Level) (earlier xs : List TrailLemma) (n : ℕ) (x : TrailLemma) → unproved levels earlier n xs ≡ None → is_justified levels (earlier ++ xs) x ≡ true → unproved levels earlier n (xs ++ x ∷ []) ≡ None
unfolding unproved
justified_push levels earlier [] n x h on =
    let here : is_justified levels earlier x ≡ true = subst (λ (es : List TrailLemma). is_justified levels es x ≡ true) (append-nil earlier) on in
    rw here refl
justified_push levels earlier (y ∷ ys) n x h on =
    elim (cases_Bool (is_justified levels earlier y)) [
      | inl good ↦
          let rest : unproved levels (earlier ++ y ∷ []) (n + 1) ys ≡ None = sym (goes_on good) ∙ h in
          rw good (justified_push levels (earlier ++ y ∷ []) ys (n + 1) x rest (subst (λ (es : List TrailLemma). is_justified levels es x ≡ true) (sym (append_assoc earlier (y ∷ []) ys)) on))
      | inr bad ↦ absurd (none_not (sym h ∙ stops bad))
    ]
  where
    goes_on : is_justified levels earlier y ≡ true → unproved levels earlier n (y ∷ ys) ≡ unproved levels (earlier ++ y ∷ []) (n + 1) ys
    goes_on good = rw good refl

    stops : is_justified levels earlier y ≡ false → unproved levels earlier n (y ∷ ys) ≡ Some n
    stops bad = rw bad refl

    none_not : ◌≡◌ {A = Option ℕ} None (Some n) → ⊥
    none_not e = cc

-- ---- what a search keeps

pub further_same : (levels : List Level) (kept : Kept) → AreKept levels kept → IsFurther levels kept kept
further_same levels kept h = record { kept = h; more = []; grown = sym (append-nil kept.lemmas) }

pub further_then : (levels : List Level) (a b c : Kept) → IsFurther levels a b → IsFurther levels b c → IsFurther levels a c
further_then levels a b c g h = record { kept = h.kept; more = g.more ++ h.more; grown = h.grown ∙ ap (λ (ws : List TrailLemma). ws ++ h.more) g.grown ∙ append_assoc a.lemmas g.more h.more }

-- the line of a lemma lists it
pub record IsListing (levels : List Level) (done : ℕ) (s : List Place) (bound : ℕ) (line : LemmaLine) (listed : TrailLemma) : Type 0 where
  pub made : line ≡ line_of done s bound
  pub is : listed ≡ lemma_listed levels line
  pub lemma : listed ≡ lemma_of done s bound

pub listing : (levels all : List Level) (done : ℕ) (s s1 : List Place) (bound : ℕ) (line : LemmaLine) (listed : TrailLemma) → AreChained levels → IsStateOf (nodes_of (slice_get levels done)) s → line ≡ line_of done s1 bound → s1 ≡ s → all ≡ levels → listed ≡ lemma_listed all line → IsListing levels done s bound line listed
listing levels all done s s1 bound line listed chained h made e1 whole is =
    let line_is : line ≡ line_of done s bound = made ∙ ap (λ (t : List Place). line_of done t bound) e1 in
    let of_line : listed ≡ lemma_listed levels line = is ∙ ap (λ (ls : List Level). lemma_listed ls line) whole in
    record { made = line_is; is = of_line; lemma = of_line ∙ ap (lemma_listed levels) line_is ∙ lemma_back levels done s bound chained h }

pub further_kept : (levels : List Level) (a b : Kept) (line : LemmaLine) (listed : TrailLemma) (done : ℕ)
    (s : List Place) (bound : ℕ) → done < 32 → 0 < bound → bound ≤ 64 → AreKept levels a →
    IsStateOf (nodes_of (slice_get levels done)) s → IsListing levels done s bound line listed →
    is_justified levels a.lemmas (lemma_of done s bound) ≡ true → is_known a.lemmas done s bound ≡ false →
    b.lines ≡ a.lines ++ line ∷ [] → b.lemmas ≡ a.lemmas ++ listed ∷ [] → IsIndexOf (a.lemmas ++ listed ∷ []) b.index →
    IsFurther levels a b
further_kept levels a b line listed done s bound gates some few h valid it on unknown lines lemmas index =
    record {
      kept = record {
        listed = ap (lemmas_listed levels) lines ∙ map-append (lemma_listed levels) a.lines (line ∷ []) ∙ ap (λ (ws : List TrailLemma). ws ++ lemma_listed levels line ∷ []) h.listed ∙ ap (λ (l : TrailLemma). a.lemmas ++ l ∷ []) (sym it.is) ∙ sym lemmas;
        justified = ap (unproved levels [] 5) lemmas ∙ justified_push levels [] a.lemmas 5 listed h.justified (subst (λ (l : TrailLemma). is_justified levels a.lemmas l ≡ true) (sym it.lemma) on);
        new = subst (AreNew levels) (sym (lemmas ∙ ap (λ (l : TrailLemma). a.lemmas ++ l ∷ []) it.lemma)) (new_more levels a.lemmas done s bound some valid unknown h.new);
        indexed = subst (λ (ls : List TrailLemma). IsIndexOf ls b.index) (sym lemmas) index;
        fits = λ nets nodes. subst (All (LemmaFits nets)) (sym lines) (All-push (LemmaFits nets) a.lines line (h.fits nets nodes) (line_fits nets levels line s done bound nodes it.made valid some few gates));
      };
      more = listed ∷ [];
      grown = lemmas;
    }

pub known_kept : (levels : List Level) (earlier after : List TrailLemma) (line : LemmaLine) (listed : TrailLemma) (done : ℕ) (s : List Place) (bound : ℕ) → IsListing levels done s bound line listed → after ≡ earlier ++ listed ∷ [] → is_known after done s bound ≡ true
known_kept levels earlier after line listed done s bound it lemmas =
    ap (λ (ls : List TrailLemma). is_known ls done s bound) (lemmas ∙ ap (λ (l : TrailLemma). earlier ++ l ∷ []) it.lemma) ∙ known_last earlier done s bound

-- ---- choices

-- the choice fails: behind it, it is known that more ends come than are allowed
abbrev pub Fails : List TrailLemma → Level → ℕ → List Place → ℕ → List Edge → Type 0
Fails known level done s bound choice = choice_reaches known level (lemma_of done s bound) choice ≡ true

pub fails_still : (levels : List Level) (a b : Kept) (level : Level) (done : ℕ) (s : List Place) (bound : ℕ) (choices : List (List Edge)) → IsFurther levels a b → All (Fails a.lemmas level done s bound) choices → All (Fails b.lemmas level done s bound) choices
fails_still levels a b level done s bound choices g all =
    subst (λ (ls : List TrailLemma). All (Fails ls level done s bound) choices) (sym g.grown)
    (All-weaker (Fails a.lemmas level done s bound) (Fails (a.lemmas ++ g.more) level done s bound)
    (λ c h. known_more a.lemmas g.more (done + 1) (state_after level.now level.next s c) (bound - ends_after level.now level.next s c) h) choices all)

-- the choice at i, as the gate before settled it
pub record IsChoice (level : Level) (s : List Place) (choices : List (List Edge)) (i : ℕ) (after : List Place) (ends : ℕ) : Type 0 where
  pub choice : List Edge
  pub within : i < length choices
  pub is : choice ≡ get_or choices i choice
  pub state : after ≡ state_after level.now level.next s choice
  pub count : ends ≡ ends_after level.now level.next s choice

pub choice_at : {level : Level} {s after : List Place} {choices : List (List Edge)} {i ends : ℕ} {item : List Edge} → i < length choices → item ≡ get_or choices i item → after ≡ state_after level.now level.next s item → ends ≡ ends_after level.now level.next s item → IsChoice level s choices i after ends
choice_at {item = item} within is state count = record { choice = item; within = within; is = is; state = state; count = count }

-- the state behind it
pub state_behind : (levels : List Level) (level : Level) (done : ℕ) (s after : List Place) (ends : ℕ) (choices : List (List Edge)) (i : ℕ) → AreChained levels → slice_get levels done ≡ Some level → IsChoice level s choices i after ends → IsStateOf (nodes_of (slice_get levels done)) s → IsStateOf (nodes_of (slice_get levels (done + 1))) after
state_behind levels level done s after ends choices i chained at h state =
    let now : nodes_of (slice_get levels done) ≡ level.now = ap nodes_of at in
    let ascend : AllPairs (λ (a b : Node). a.0 < b.0) level.now = subst (AllPairs (λ (a b : Node). a.0 < b.0)) now (chained.ascend done) in
    let next : IsStateOf level.next (state_after level.now level.next s h.choice) = state_next level.now level.next s h.choice ascend (subst (λ (ns : List Node). IsStateOf ns s) now state) in
    subst (λ (ns : List Node). IsStateOf ns after) (chained.next done level at) (subst (IsStateOf level.next) (sym h.state) next)

-- one choice more fails: too many ends are certain at once
pub fails_dear : (known : List TrailLemma) (level : Level) (done : ℕ) (s after : List Place) (allowed ends : ℕ) (choices : List (List Edge)) (i : ℕ) → IsChoice level s choices i after ends → allowed < ends → All (Fails known level done s (allowed + 1)) (take i choices) → All (Fails known level done s (allowed + 1)) (take (i + 1) choices)
fails_dear known level done s after allowed ends choices i h more all =
    let none : (allowed + 1 - ends_after level.now level.next s h.choice == 0) ≡ true = eq-eqb (allowed + 1 - ends_after level.now level.next s h.choice) 0 (omega (arith, h.count, more)) in
    All-more (Fails known level done s (allowed + 1)) choices i h.choice h.within all
    (subst (Fails known level done s (allowed + 1)) h.is (or_left (allowed + 1 - ends_after level.now level.next s h.choice == 0) (list_any (says (done + 1) (state_after level.now level.next s h.choice) (allowed + 1 - ends_after level.now level.next s h.choice)) known) none))

-- or as many nodes that close are odd
pub fails_odd : (known : List TrailLemma) (level : Level) (done : ℕ) (s : List Place) (allowed : ℕ)
    (closing : List ClosingNode) (choices : List (List Edge)) (i : ℕ) (item : List Edge) → i < length choices →
    item ≡ get_or choices i item → closing ≡ closing_nodes level s → allowed < odd_ends closing item →
    All (Fails known level done s (allowed + 1)) (take i choices) →
    All (Fails known level done s (allowed + 1)) (take (i + 1) choices)
fails_odd known level done s allowed closing choices i item within is of_closing more all =
    let enough : allowed + 1 ≤ odd_ends closing item = omega (arith, more) in
    All-more (Fails known level done s (allowed + 1)) choices i item within all
    (subst (Fails known level done s (allowed + 1)) is (sym (reached_odd known level (lemma_of done s (allowed + 1)) closing item (odd_ends closing item) refl enough of_closing)))

-- or so many more are known to come behind it
pub fails_known : (known : List TrailLemma) (level : Level) (done : ℕ) (s after : List Place) (allowed ends : ℕ)
    (choices : List (List Edge)) (i : ℕ) → IsChoice level s choices i after ends → ends ≤ allowed →
    is_known known (done + 1) after (allowed - ends + 1) ≡ true →
    All (Fails known level done s (allowed + 1)) (take i choices) →
    All (Fails known level done s (allowed + 1)) (take (i + 1) choices)
fails_known known level done s after allowed ends choices i h few known_so all =
    let need : allowed - ends + 1 ≡ allowed + 1 - ends_after level.now level.next s h.choice = omega (arith, h.count, few) in
    All-more (Fails known level done s (allowed + 1)) choices i h.choice h.within all
    (subst (Fails known level done s (allowed + 1)) h.is
    (subst (λ (n : ℕ). is_known known (done + 1) (state_after level.now level.next s h.choice) n ≡ true) need (subst (λ (t : List Place). is_known known (done + 1) t (allowed - ends + 1) ≡ true) h.state known_so)))

-- all choices fail
all_pass : {A : Type 0} (p : A → Bool) (xs : List A) → All (λ x. p x ≡ true) xs → list_all p xs ≡ true
all_pass p [] h = refl
all_pass {A = A} p (x ∷ xs) h = and_from (p x) (list_all p xs) (All-head (λ (y : A). p y ≡ true) x xs h) (all_pass p xs (All-tail (λ (y : A). p y ≡ true) x xs h))

pub all_fail : (levels : List Level) (known : List TrailLemma) (level : Level) (done : ℕ) (s : List Place) (bound : ℕ) (choices : List (List Edge)) (i : ℕ) → slice_get levels done ≡ Some level → choices ≡ level.choices → All (Fails known level done s bound) (take i choices) → length choices ≤ i → is_justified levels known (lemma_of done s bound) ≡ true
all_fail levels known level done s bound choices i at same all past =
    ap (level_reaches known (lemma_of done s bound)) at
    ∙ all_pass (choice_reaches known level (lemma_of done s bound)) level.choices (subst (All (Fails known level done s bound)) same (subst (All (Fails known level done s bound)) (take_all i choices past) all))
