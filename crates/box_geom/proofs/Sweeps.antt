-- The slots between events in order hold what the operation makes of the two sets.
use Rattle.std.proofs.Common.{◌≡◌, ◌↔◌, ℤ, ◌≤ℤ◌, ◌<ℤ◌, List, [], ◌∷◌, Bool, true, false, ◌&&◌, if◌then◌else◌, int_lt, arith, inl, inr, ◌⊎◌, refl, sym, subst, ◌∙◌, true≢false}
use Rattle.std.proofs.lemmas.Int.{ints, clamps, by_lt_z}
use Rattle.cell_num.proofs.In.{In}
use Rattle.box_geom.specs.declared.ranges.XRange.{XRange}
use Rattle.box_geom.specs.declared.sweep.Event.{Event}
use Rattle.box_geom.specs.declared.sweep.Operation.{Operation}
use Rattle.box_geom.specs.declared.sweep.Operation.TheVariants.{Both, Either, Minus}
use Rattle.box_geom.specs.declared.sweep.Side.{Side}
use Rattle.box_geom.specs.declared.sweep.Side.TheVariants.{First, Second}
use Rattle.box_geom.specs.Ranges.{Hit, Rising}
use Rattle.box_geom.specs.Sweeping.{Meant, applied, is_held, has_slot, after, slots}

-- how far the event lets a set reach
abbrev pub reach : Side → Event → ℤ
reach First e = e.first
reach Second e = e.second

-- events that do not descend, none before low
abbrev pub InOrder : ℤ → List Event → Type 0
InOrder low [] = Unit {0}
InOrder low (e ∷ es) = (low ≤ℤ e.at) × InOrder e.at es

-- some event stands at the place
pub record At (es : List Event) (z : ℤ) : Type 0 where
  pub event : Event
  pub listed : In es event
  pub is : event.at ≡ z

-- where a set reaches beyond its event, an event of the rest stands
pub record AreEnded (all rest : List Event) : Type 0 where
  pub ends : (e : Event) → In all e → (side : Side) → e.at <ℤ reach side e → At rest (reach side e)

-- an event before x lets the set reach beyond x
pub record Reached (side : Side) (es : List Event) (x : ℤ) : Type 0 where
  pub event : Event
  pub listed : In es event
  pub begun : event.at ≤ℤ x
  pub beyond : x <ℤ reach side event

-- a test and the fact that it decides, in both directions
abbrev Tells : Bool → Type 0 → Type 0
Tells b P = ((b ≡ true) → P) × (P → b ≡ true)

pub meant_none : (op : Operation) (P Q : Type 0) → (P → ⊥) → (Q → ⊥) → Meant op P Q → ⊥
meant_none Both P Q p q m = p m.0
meant_none Either P Q p q (inl a) = p a
meant_none Either P Q p q (inr b) = q b
meant_none Minus P Q p q m = p m.0

pub meant_like : (op : Operation) (P Q R S : Type 0) → (P ↔ R) → (Q ↔ S) → Meant op P Q → Meant op R S
meant_like Both P Q R S f g m = (f.0 m.0, g.0 m.1)
meant_like Either P Q R S f g (inl a) = inl (f.0 a)
meant_like Either P Q R S f g (inr b) = inr (g.0 b)
meant_like Minus P Q R S f g m = (f.0 m.0, λ s. m.1 (g.1 s))

meant_yes : (op : Operation) (a b : Bool) (P Q : Type 0) → Tells a P → Tells b Q → applied op a b ≡ true → Meant op P Q
meant_yes Both true true P Q f g e = (f.0 refl, g.0 refl)
meant_yes Both true false P Q f g e = absurd (true≢false (sym e))
meant_yes Both false b P Q f g e = absurd (true≢false (sym e))
meant_yes Either true b P Q f g e = inl (f.0 refl)
meant_yes Either false b P Q f g e = inr (g.0 e)
meant_yes Minus true true P Q f g e = absurd (true≢false (sym e))
meant_yes Minus true false P Q f g e = (f.0 refl, λ q. true≢false (sym (g.1 q)))
meant_yes Minus false b P Q f g e = absurd (true≢false (sym e))

meant_no : (op : Operation) (a b : Bool) (P Q : Type 0) → Tells a P → Tells b Q → Meant op P Q → applied op a b ≡ true
meant_no Both a b P Q f g m = let p = f.1 m.0 in let q = g.1 m.1 in rw (p, q) refl
meant_no Either true b P Q f g m = refl
meant_no Either false b P Q f g (inl p) = absurd (true≢false (sym (f.1 p)))
meant_no Either false b P Q f g (inr q) = g.1 q
meant_no Minus a true P Q f g m = absurd (m.1 (g.0 refl))
meant_no Minus a false P Q f g m = let p = f.1 m.0 in rw p refl

-- slots lie behind their first event, in order
pub slots_rising : (op : Operation) (e : Event) (es : List Event) (low : ℤ) → low ≤ℤ e.at → InOrder e.at es → Rising low (slots op e es)
slots_rising op e [] low le o = tt
slots_rising op e (f ∷ fs) low le o = let m = o.0 in by (has_slot op e f) refl (λ l. slots_rising op (after e f) fs l)
  where
    lower : (b : Bool) (t : Bool) → (b && t) ≡ true → t ≡ true
    lower true t q = q
    lower false t q = absurd (true≢false (sym q))

    by : (b : Bool) → has_slot op e f ≡ b → ((l : ℤ) → l ≤ℤ f.at → InOrder f.at fs → Rising l (slots op (after e f) fs)) → Rising low (if b then record { x1 = e.at; x2 = f.at } ∷ slots op (after e f) fs else slots op (after e f) fs)
    by true q rest = let w : int_lt e.at f.at ≡ true = lower (is_held op e) (int_lt e.at f.at) q in (le, (omega (arith, ints), rest e.at (omega (arith, ints)) o.1))
    by false q rest = rest low (omega (arith, ints)) o.1

-- below its beginning a list of ranges in order holds nothing
pub none_below : (low : ℤ) (rs : List XRange) (x : ℤ) → Rising low rs → x <ℤ low → Hit rs x → ⊥
none_below low [] x r l h = h
none_below low (s ∷ ss) x r l (inl k) = let m = r.0 in omega (arith, ints)
none_below low (s ∷ ss) x r l (inr k) = let m = r.0 in none_below s.x1 ss x r.1.1 (omega (arith, ints)) k

pub none_early : (low : ℤ) (es : List Event) (e : Event) → InOrder low es → In es e → low ≤ℤ e.at
none_early low [] e o i = absurd i
none_early low (f ∷ fs) e o (inl same) = subst (λ (z : Event). low ≤ℤ z.at) same o.0
none_early low (f ∷ fs) e o (inr more) = let m = o.0 in let n = none_early f.at fs e o.1 more in omega (arith, ints)

-- a set that does not reach beyond the first event holds nothing before the next
lone : (side : Side) (e f : Event) (fs : List Event) (x : ℤ) → InOrder e.at (f ∷ fs) → AreEnded (e ∷ f ∷ fs) (f ∷ fs) → e.at ≤ℤ x → x <ℤ f.at → Tells (int_lt e.at (reach side e)) (Reached side (e ∷ f ∷ fs) x)
lone side e f fs x o a from to = (there, back)
  where
    there : int_lt e.at (reach side e) ≡ true → Reached side (e ∷ f ∷ fs) x
    there t =
        let less : e.at <ℤ reach side e = omega (arith, ints) in
        let end = a.ends e (inl refl) side less in
        let n : f.at ≤ℤ end.event.at = behind end.event end.listed in
        let is = end.is in
        record { event = e; listed = inl refl; begun = from; beyond = omega (arith, ints) }
      where
        behind : (d : Event) → In (f ∷ fs) d → f.at ≤ℤ d.at
        behind d i = none_early f.at (f ∷ fs) d (omega (arith, ints), o.1) i

    back : Reached side (e ∷ f ∷ fs) x → int_lt e.at (reach side e) ≡ true
    back r = by r.event r.listed r.begun r.beyond
      where
        by : (d : Event) → In (e ∷ f ∷ fs) d → d.at ≤ℤ x → x <ℤ reach side d → int_lt e.at (reach side e) ≡ true
        by d (inl same) b h = let k : x <ℤ reach side e = subst (λ (z : Event). x <ℤ reach side z) (sym same) h in let l : e.at <ℤ reach side e = omega (arith, ints) in grind (arith, ints)
        by d (inr more) b h = let n = none_early f.at (f ∷ fs) d (omega (arith, ints), o.1) more in absurd (omega (arith, ints))

-- behind the next event, the two first events are as one
passed : (side : Side) (e f : Event) (fs : List Event) (x : ℤ) → e.at ≤ℤ f.at → f.at ≤ℤ x → Reached side (after e f ∷ fs) x ↔ Reached side (e ∷ f ∷ fs) x
passed side e f fs x le from = (λ r. there r.event r.listed r.begun r.beyond, λ r. back r.event r.listed r.begun r.beyond)
  where
    one : (s : Side) → x <ℤ reach s (after e f) → (x <ℤ reach s e) ⊎ (x <ℤ reach s f)
    one First h = by_lt_z x e.first (λ less. inl less) (λ most. inr (omega (arith, ints, clamps)))
    one Second h = by_lt_z x e.second (λ less. inl less) (λ most. inr (omega (arith, ints, clamps)))

    left : (s : Side) → x <ℤ reach s e → x <ℤ reach s (after e f)
    left First h = omega (arith, ints, clamps)
    left Second h = omega (arith, ints, clamps)

    right : (s : Side) → x <ℤ reach s f → x <ℤ reach s (after e f)
    right First h = omega (arith, ints, clamps)
    right Second h = omega (arith, ints, clamps)

    there : (d : Event) → In (after e f ∷ fs) d → d.at ≤ℤ x → x <ℤ reach side d → Reached side (e ∷ f ∷ fs) x
    there d (inl same) b h =
        elim (one side (subst (λ (z : Event). x <ℤ reach side z) (sym same) h)) [
          | inl k ↦ record { event = e; listed = inl refl; begun = omega (arith, ints); beyond = k }
          | inr k ↦ record { event = f; listed = inr (inl refl); begun = from; beyond = k }
        ]
    there d (inr more) b h = record { event = d; listed = inr (inr more); begun = b; beyond = h }

    back : (d : Event) → In (e ∷ f ∷ fs) d → d.at ≤ℤ x → x <ℤ reach side d → Reached side (after e f ∷ fs) x
    back d (inl same) b h = record { event = after e f; listed = inl refl; begun = from; beyond = left side (subst (λ (z : Event). x <ℤ reach side z) (sym same) h) }
    back d (inr (inl same)) b h = record { event = after e f; listed = inl refl; begun = from; beyond = right side (subst (λ (z : Event). x <ℤ reach side z) (sym same) h) }
    back d (inr (inr more)) b h = record { event = d; listed = inr more; begun = b; beyond = h }

-- the ends of the rest stay ends
kept_ends : (e f : Event) (fs : List Event) → e.at ≤ℤ f.at → InOrder f.at fs → AreEnded (e ∷ f ∷ fs) (f ∷ fs) → AreEnded (after e f ∷ fs) fs
kept_ends e f fs le o a = record { ends = λ d i side h. by d i side h }
  where
    later : (z : ℤ) → f.at <ℤ z → At (f ∷ fs) z → At fs z
    later z h t = step t.event t.listed t.is
      where
        step : (d : Event) → In (f ∷ fs) d → d.at ≡ z → At fs z
        step d (inl same) is = let k : f.at ≡ z = subst (λ (w : Event). w.at ≡ z) (sym same) is in absurd (omega (arith, ints))
        step d (inr more) is = record { event = d; listed = more; is = is }

    from_e : (s : Side) (z : ℤ) → reach s e ≡ z → f.at <ℤ z → At fs z
    from_e s z is h = subst (At fs) is (later (reach s e) (omega (arith, ints)) (a.ends e (inl refl) s (omega (arith, ints))))

    from_f : (s : Side) (z : ℤ) → reach s f ≡ z → f.at <ℤ z → At fs z
    from_f s z is h = subst (At fs) is (later (reach s f) (omega (arith, ints)) (a.ends f (inr (inl refl)) s (omega (arith, ints))))

    first : (s : Side) → f.at <ℤ reach s (after e f) → At fs (reach s (after e f))
    first First h = by_lt_z e.first f.first (λ less. from_f First (reach First (after e f)) (omega (arith, ints, clamps)) h) (λ most. from_e First (reach First (after e f)) (omega (arith, ints, clamps)) h)
    first Second h = by_lt_z e.second f.second (λ less. from_f Second (reach Second (after e f)) (omega (arith, ints, clamps)) h) (λ most. from_e Second (reach Second (after e f)) (omega (arith, ints, clamps)) h)

    by : (d : Event) → In (after e f ∷ fs) d → (side : Side) → d.at <ℤ reach side d → At fs (reach side d)
    by d (inl same) side h = subst (λ (z : Event). At fs (reach side z)) same (first side (subst (λ (z : Event). z.at <ℤ reach side z) (sym same) h))
    by d (inr more) side h = let n = none_early f.at fs d o more in later (reach side d) (omega (arith, ints)) (a.ends d (inr (inr more)) side h)

pub slots_hold : (op : Operation) (e : Event) (es : List Event) (x : ℤ) → InOrder e.at es → AreEnded (e ∷ es) es → e.at ≤ℤ x → Hit (slots op e es) x ↔ Meant op (Reached First (e ∷ es) x) (Reached Second (e ∷ es) x)
slots_hold op e [] x o a from = (λ h. absurd h, λ m. meant_none op (Reached First (e ∷ []) x) (Reached Second (e ∷ []) x) (none First) (none Second) m)
  where
    none : (side : Side) → Reached side (e ∷ []) x → ⊥
    none side r = by r.event r.listed r.beyond
      where
        by : (d : Event) → In (e ∷ []) d → x <ℤ reach side d → ⊥
        by d (inl same) h = let k : x <ℤ reach side e = subst (λ (z : Event). x <ℤ reach side z) (sym same) h in (a.ends e (inl refl) side (omega (arith, ints))).listed
        by d (inr more) h = more
slots_hold op e (f ∷ fs) x o a from = let le = o.0 in by_lt_z x f.at (λ less. early less) (λ most. late most (slots_hold op (after e f) fs x o.1 (kept_ends e f fs le o.1 a) most))
  where
    early : x <ℤ f.at → Hit (slots op e (f ∷ fs)) x ↔ Meant op (Reached First (e ∷ f ∷ fs) x) (Reached Second (e ∷ f ∷ fs) x)
    early less = by (is_held op e) refl
      where
        first : Tells (int_lt e.at e.first) (Reached First (e ∷ f ∷ fs) x)
        first = lone First e f fs x o a from less

        second : Tells (int_lt e.at e.second) (Reached Second (e ∷ f ∷ fs) x)
        second = lone Second e f fs x o a from less

        wide : int_lt e.at f.at ≡ true
        wide = let l : e.at <ℤ f.at = omega (arith, ints) in grind (arith, ints)

        by : (b : Bool) → is_held op e ≡ b → Hit (if b && int_lt e.at f.at then record { x1 = e.at; x2 = f.at } ∷ slots op (after e f) fs else slots op (after e f) fs) x ↔ Meant op (Reached First (e ∷ f ∷ fs) x) (Reached Second (e ∷ f ∷ fs) x)
        by true q = rw wide (λ h. meant_yes op (int_lt e.at e.first) (int_lt e.at e.second) _ _ first second q, λ m. inl (record { from = from; to = less }))
        by false q = (λ h. absurd (none_below f.at (slots op (after e f) fs) x (slots_rising op (after e f) fs f.at (omega (arith, ints)) o.1) less h), λ m. absurd (true≢false (sym (meant_no op (int_lt e.at e.first) (int_lt e.at e.second) _ _ first second m) ∙ q)))

    late : f.at ≤ℤ x → (Hit (slots op (after e f) fs) x ↔ Meant op (Reached First (after e f ∷ fs) x) (Reached Second (after e f ∷ fs) x)) → Hit (slots op e (f ∷ fs)) x ↔ Meant op (Reached First (e ∷ f ∷ fs) x) (Reached Second (e ∷ f ∷ fs) x)
    late most (there, back) = by (has_slot op e f)
      where
        first : Reached First (after e f ∷ fs) x ↔ Reached First (e ∷ f ∷ fs) x
        first = passed First e f fs x o.0 most

        second : Reached Second (after e f ∷ fs) x ↔ Reached Second (e ∷ f ∷ fs) x
        second = passed Second e f fs x o.0 most

        onward : Meant op (Reached First (after e f ∷ fs) x) (Reached Second (after e f ∷ fs) x) → Meant op (Reached First (e ∷ f ∷ fs) x) (Reached Second (e ∷ f ∷ fs) x)
        onward m = meant_like op _ _ _ _ first second m

        backward : Meant op (Reached First (e ∷ f ∷ fs) x) (Reached Second (e ∷ f ∷ fs) x) → Meant op (Reached First (after e f ∷ fs) x) (Reached Second (after e f ∷ fs) x)
        backward m = meant_like op _ _ _ _ (first.1, first.0) (second.1, second.0) m

        by : (b : Bool) → Hit (if b then record { x1 = e.at; x2 = f.at } ∷ slots op (after e f) fs else slots op (after e f) fs) x ↔ Meant op (Reached First (e ∷ f ∷ fs) x) (Reached Second (e ∷ f ∷ fs) x)
        by true = (λ h. elim h [ inl k ↦ absurd (omega (arith, ints)) | inr k ↦ onward (there k) ], λ m. inr (back (backward m)))
        by false = (λ h. onward (there h), λ m. back (backward m))
