-- Lines and lemmas that are equal one by one; and what is read from a text, beside what is written.
use Rattle.std.specs.Prelude.{ℕ, zero, suc, ◌≡◌, ◌≢◌, ◌+◌, ◌≤◌, ◌<◌, ◌↔◌, Bool, true, false, IsTrue, List, [], ◌∷◌}
use Rattle.std.specs.Prelude.{◌++◌, All, codes, drop, length, map, take, Option, None, IfNone, IfOk, Result, Ok, Err}
use Rattle.std.proofs.Common.{refl, sym, ap, subst, arith, ◌∙◌, get_or, take_all}
use Rattle.std.proofs.lemmas.List.{map_more, take_more}
use Rattle.std.proofs.lemmas.List.Elements.{All-cons, All-nil}
use Rattle.cell_num.specs.declared.list.NoMemory.{NoMemory}
use Rattle.row_state.specs.declared.kind.Kinds.{Kinds}
use Rattle.bound_log.specs.declared.fault.LogFault.{LogFault}
use Rattle.bound_log.specs.declared.fault.LogFault.TheVariants as because
use Rattle.cell_num.proofs.Lists.{all_at}
use Rattle.trail_pools.specs.declared.level.PoolLevel.{PoolLevel}
use Rattle.trail_pools.specs.declared.pools.Pools.{Pools}
use Rattle.trail_pools.specs.declared.state.PoolState.{PoolState}
use Rattle.end_lemmas.specs.declared.lemma.EndLemma.{EndLemma}
use Rattle.order_log.specs.declared.certificate.OrderCertificate.{OrderCertificate}
use Rattle.pool_log.specs.declared.lemma.PoolLine.{PoolLine}
use Rattle.pool_log.specs.Fits.{PoolsFit}
use Rattle.pool_log.specs.Text.{pool_text}
use Rattle.pool_check.specs.declared.along.PoolOrder.{PoolOrder}
use Rattle.pool_lines.specs.Texts.{IsTextOfState}
use Rattle.pool_lines.proofs.Texts.{text_back}
use Rattle.pool_certificate.specs.Accepted.{lemma_listed, lemmas_along}
use Rattle.pool_certificate.specs.Refusal.{IsFirstOther}
use Rattle.pool_trails.specs.declared.gates.PoolGates.{PoolGates}
use Rattle.pool_trails.specs.Found.{line_at}
use Rattle.pool_trails.specs.Inner.{AreUnlistedAlong, ListAlong, lined}

-- ---- one by one

module _ {X Y : Type 0} (g : Y → X) where
  pub more_alike : (ys : List Y) (xs : List X) (i : ℕ) (d : Y) (e : X) → i < length ys → i < length xs
      → g (get_or ys i d) ≡ get_or xs i e → map g (take i ys) ≡ take i xs → map g (take (i + 1) ys) ≡ take (i + 1) xs
  more_alike ys xs i d e within inside same before =
      map_more g ys i d within ∙ ap (λ (zs : List X). zs ++ g (get_or ys i d) ∷ []) before
      ∙ ap (λ (z : X). take i xs ++ z ∷ []) same ∙ sym (take_more xs i e inside)

  pub all_alike : (ys : List Y) (xs : List X) (i : ℕ) → length ys ≤ i → length ys ≡ length xs
      → map g (take i ys) ≡ take i xs → map g ys ≡ xs
  all_alike ys xs i past same before =
      ap (map g) (sym (take_all i ys past)) ∙ before ∙ take_all i xs (omega (arith, past, same))

  item_of : (ys : List Y) (i : ℕ) (d : Y) (e : X) → i < length ys → get_or (map g ys) i e ≡ g (get_or ys i d)
  item_of [] i d e within = absurd (omega (arith, within))
  item_of (y ∷ ys) zero d e within = refl
  item_of (y ∷ ys) (suc i) d e within = item_of ys i d e (omega (arith, within))

  pub one_unlike : (ys : List Y) (xs : List X) (i : ℕ) (d : Y) (e : X) → i < length ys
      → (g (get_or ys i d) ≡ get_or xs i e → ⊥) → map g ys ≡ xs → ⊥
  one_unlike ys xs i d e within other same =
      other (sym (item_of ys i d e within) ∙ ap (λ (zs : List X). get_or zs i e) same)

-- ---- a lemma

module _ (a : EndLemma PoolState) (bound done : ℕ) (s : PoolState) where
  abbrev pub made : EndLemma PoolState
  made = record { bound = bound; done = done; state = s }

  pub lemma_same : bound ≡ a.bound → done ≡ a.done → s ≡ a.state → made ≡ a
  lemma_same e u v = rw e (rw u (rw v refl))

  pub lemma_tells : (b : Bool) → bound ≡ a.bound → done ≡ a.done → (IsTrue b ↔ (s ≡ a.state)) → IsTrue b ↔ (made ≡ a)
  lemma_tells b e u tells = (
    λ yes. lemma_same e u (tells.0 yes),
    λ same. tells.1 (ap (λ (l : EndLemma PoolState). l.state) same),
  )

  pub other_numbers : (b : Bool) → (IsTrue b ↔ ((bound ≡ a.bound) × (done ≡ a.done))) → b ≡ false → (made ≡ a) → ⊥
  other_numbers b tells off same =
      let yes : b ≡ true =
      tells.1 (ap (λ (l : EndLemma PoolState). l.bound) same, ap (λ (l : EndLemma PoolState). l.done) same) in
      cc

-- ---- what is read

module _ (k : Kinds) (along : PoolOrder) (gates : PoolGates) (lemmas : List (EndLemma PoolState)) where
  pub with_row : (read : OrderCertificate PoolLine) (b : Bool) → (IsTrue b ↔ (read.best ≡ None)) → b ≡ false
      → ListAlong along gates lemmas read → ⊥
  with_row read b tells off l = let yes : b ≡ true = tells.1 l.rowless in cc

  pub other_fill : (read : OrderCertificate PoolLine) (b : Bool) → (IsTrue b ↔ (read.fill ≡ gates.fill)) → b ≡ false
      → ListAlong along gates lemmas read → ⊥
  other_fill read b tells off l = let yes : b ≡ true = tells.1 l.fill in cc

  pub other_order : (read : OrderCertificate PoolLine) (b : Bool) → (IsTrue b ↔ (read.order ≡ gates.order)) → b ≡ false
      → ListAlong along gates lemmas read → ⊥
  other_order read b tells off l = let yes : b ≡ true = tells.1 l.order in cc

  pub other_lemmas : (read : OrderCertificate PoolLine) (b : Bool)
      → (IsTrue b ↔ (lemmas_along along.steps.pools along.levels read.lemmas ≡ lemmas)) → b ≡ false
      → ListAlong along gates lemmas read → ⊥
  other_lemmas read b tells off l = let yes : b ≡ true = tells.1 l.listed in cc

module _ (along : PoolOrder) (gates : PoolGates) (lemmas : List (EndLemma PoolState)) where
  -- where the gates are these and the lines list the lemmas, the texts decide
  pub lists_tells : (read : OrderCertificate PoolLine) (r : Result Bool NoMemory) (lines : List PoolLine)
      → read.best ≡ None → read.fill ≡ gates.fill → read.order ≡ gates.order → lines ≡ read.lemmas
      → lemmas_along along.steps.pools along.levels lines ≡ lemmas
      → IfOk r (λ b. IsTrue b ↔ All (IsTextOfState along.steps.pools along.levels) lines)
      → IfOk r (λ b. IsTrue b ↔ ListAlong along gates lemmas read)
  lists_tells read (Err e) lines none fill order are listed tells = tt
  lists_tells read (Ok b) lines none fill order are listed tells = (
    λ yes. record {
      rowless = none;
      fill = fill;
      order = order;
      listed = subst (λ (ls : List PoolLine). lemmas_along along.steps.pools along.levels ls ≡ lemmas) are listed;
      texts = subst (All (IsTextOfState along.steps.pools along.levels)) are (tells.0 yes);
    },
    λ l. tells.1 (subst (All (IsTextOfState along.steps.pools along.levels)) (sym are) l.texts),
  )

-- ---- texts of states

module _ (pools : Pools) (levels : List PoolLevel) where
  -- a line that is none
  pub no_text : (lines : List PoolLine) (at : ℕ) → IsFirstOther pools levels lines at
      → All (IsTextOfState pools levels) lines → ⊥
  no_text lines at h all = h.other (all_at (IsTextOfState pools levels) lines at h.line all h.there)

  -- the lines of lemmas that list these
  pub texts_of : (lemmas : List (EndLemma PoolState))
      → map (lemma_listed pools levels) (map (line_at pools) lemmas) ≡ lemmas
      → All (IsTextOfState pools levels) (map (line_at pools) lemmas)
  texts_of [] e = All-nil (IsTextOfState pools levels)
  texts_of (x ∷ xs) e =
      All-cons (IsTextOfState pools levels) (line_at pools x) (map (line_at pools) xs)
      (text_back pools levels x.bound x.done x.state (line_at pools x) refl
      (ap (λ (ls : List (EndLemma PoolState)). (get_or ls 0 x).state) e))
      (texts_of xs (ap (λ (ls : List (EndLemma PoolState)). drop 1 ls) e))

module _ (k : Kinds) (along : PoolOrder) (gates : PoolGates) (lemmas : List (EndLemma PoolState)) where
  -- the text has too many bytes
  pub text_long : (text : List ℕ) → text ≡ pool_text (codes "cell") (lined along gates lemmas)
      → 1073741824 < length text → AreUnlistedAlong k along gates lemmas
  text_long text is long few fits lists = omega (arith, long, few, ap (λ (t : List ℕ). length t) is)

  -- no certificate that fits has the text
  none_read : (text : List ℕ) → text ≡ pool_text (codes "cell") (lined along gates lemmas)
      → ((pools : OrderCertificate PoolLine) → PoolsFit k pools → pool_text (codes "cell") pools ≢ text)
      → AreUnlistedAlong k along gates lemmas
  none_read text is none few fits lists = none (lined along gates lemmas) fits (sym is)

  -- the one that has it lists other lemmas
  pub others_read : (text : List ℕ) (read : OrderCertificate PoolLine) (b : Bool)
      → text ≡ pool_text (codes "cell") (lined along gates lemmas)
      → ((pools : OrderCertificate PoolLine) → PoolsFit k pools → pool_text (codes "cell") pools ≡ text → pools ≡ read)
      → (IsTrue b ↔ ListAlong along gates lemmas read) → b ≡ false → AreUnlistedAlong k along gates lemmas
  others_read text read b is one tells off few fits lists =
      let same : lined along gates lemmas ≡ read = one (lined along gates lemmas) fits (sym is) in
      let yes : b ≡ true = tells.1 (subst (ListAlong along gates lemmas) same lists) in
      cc

  -- the text can't be read
  pub unread_none : (r : Result (Option (OrderCertificate PoolLine)) NoMemory) (fault : LogFault)
      (name items bytes : List ℕ) (pools : OrderCertificate PoolLine)
      → IfOk r (λ o. (o ≡ None) × (fault ≢ because.NoMemory)) → name ≡ codes "cell"
      → pools ≡ lined along gates lemmas → items ≡ pool_text name pools → bytes ≡ items
      → (fault ≢ because.NoMemory → (others : OrderCertificate PoolLine) → PoolsFit k others
      → pool_text name others ≢ bytes)
      → IfOk r (λ o. IfNone o (AreUnlistedAlong k along gates lemmas))
  unread_none (Ok o) fault name items bytes pools h named lined_is text read none =
      let is : bytes ≡ pool_text (codes "cell") (lined along gates lemmas) =
      read ∙ text ∙ ap (λ (n : List ℕ). pool_text n pools) named
      ∙ ap (λ (c : OrderCertificate PoolLine). pool_text (codes "cell") c) lined_is in
      let other : (others : OrderCertificate PoolLine) → PoolsFit k others → pool_text (codes "cell") others ≢ bytes =
      subst (λ (n : List ℕ). (others : OrderCertificate PoolLine) → PoolsFit k others → pool_text n others ≢ bytes)
      named (none h.1) in
      subst (λ (z : Option (OrderCertificate PoolLine)). IfNone z (AreUnlistedAlong k along gates lemmas)) (sym h.0)
      (none_read bytes is other)
  unread_none (Err e) fault name items bytes pools h named lined_is text read none = tt
