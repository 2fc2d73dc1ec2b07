-- The lemmas that are kept by the numbers of their states.
use Rattle.std.proofs.Common.{ℕ, zero, suc, ◌≡◌, ◌≤◌, ◌<◌, ◌+◌, ◌*◌, ◌/◌, ◌%◌, ◌++◌, List, [], ◌∷◌, length, map, get_or, slice_get, Some, All, refl, sym, ap, subst, arith, ◌∙◌, mul-le-mul}
use Rattle.std.proofs.lemmas.List.{length-map, map-append}
use Rattle.std.proofs.lemmas.Nat.{div-add-mod', div_below, mod_below}
use Rattle.std.proofs.lemmas.List.Elements.{All-cons, All-nil, All-push}
use Rattle.row_state.specs.declared.kind.Kind.{Kind}
use Rattle.row_state.specs.declared.kind.Kinds.{Kinds}
use Rattle.row_state.specs.declared.state.State.{State}
use Rattle.row_state.specs.declared.numbered.Numbered.{Numbered}
use Rattle.row_state.specs.Candidates.{IsNumbered}
use Rattle.row_state.specs.Code.{IsCode, counts_of_code, most_states, state_of}
use Rattle.row_state.specs.Decoded.{decoded}
use Rattle.row_state.specs.Start.{AreSomeKinds}
use Rattle.row_state.proofs.Codes.{lists_few_n, lists_few_p, state_below}
use Rattle.row_state.proofs.Digits.{nets_few}
use Rattle.bound_log.specs.declared.log.Lemma.{Lemma}
use Rattle.bound_log.specs.declared.log.Rule.{Rule}
use Rattle.bound_log.specs.declared.kept.Packed.{Packed}
use Rattle.bound_log.specs.Kept.{HasRoom, lemma_of, number_of, numbered_lemma}

-- ---- a number by its higher and lower bits

pub high_fits : (code : ℕ) → code < 79228162514264337593543950336 → code / 18446744073709551616 < 4294967296
high_fits code less = div_below code 18446744073709551616 4294967296 (omega arith) (omega (arith, less))

pub low_fits : (code : ℕ) → code % 18446744073709551616 < 18446744073709551616
low_fits code = mod_below code 18446744073709551616 (omega arith)

pub bits_joined : (code : ℕ) → number_of (code / 18446744073709551616) (code % 18446744073709551616) ≡ code
bits_joined code = div-add-mod' code 18446744073709551616

pub code_fits : (k : Kinds) (at : Numbered) → AreSomeKinds k → IsNumbered k at → at.code < 79228162514264337593543950336
code_fits k at some numbered =
    let most : most_states k ≤ 4294967296 * 4294967296 * 66049 = mul-le-mul (mul-le-mul (lists_few_p k some) (lists_few_n k some)) (nets_few k some) in
    omega (arith, most, numbered.code, state_below k at.state numbered.valid)

abbrev pub code_in : Packed → ℕ
code_in x = number_of x.high x.low

abbrev pub lemma_in : Kinds → Packed → Lemma
lemma_in k x = numbered_lemma k (code_in x) x.bound x.rule

abbrev pub lemmas_in : Kinds → List Packed → List Lemma
lemmas_in k packed = map (lemma_in k) packed

counts_length : (kinds : List Kind) (n : ℕ) → length (counts_of_code kinds n) ≡ length kinds
counts_length [] n = refl
counts_length (k ∷ ks) n = omega (arith, counts_length ks (n / (k.count + 1)))

within_packed : (k : Kinds) (packed : List Packed) (seen : List Lemma) (at : ℕ) → lemmas_in k packed ≡ seen → at < length seen → at < length packed
within_packed k packed seen at e within = omega (arith, within, ap length e, length-map packed (lemma_in k))

pub code_at : (k : Kinds) (packed items : List Packed) (seen : List Lemma) (at : ℕ) (d : Packed) → lemmas_in k packed ≡ seen → All (λ (x : Packed). IsCode k (code_in x)) packed → items ≡ packed → at < length seen → IsCode k (code_in (get_or items at d))
code_at k packed items seen at d e all same within = subst (λ (xs : List Packed). IsCode k (code_in (get_or xs at d))) (sym same) (all at d (within_packed k packed seen at e within))

lemma_there : (k : Kinds) (packed : List Packed) (at : ℕ) (d : Packed) → at < length packed → slice_get (lemmas_in k packed) at ≡ Some (lemma_in k (get_or packed at d))
lemma_there k [] at d within = absurd (omega (arith, within))
lemma_there k (x ∷ xs) zero d within = refl
lemma_there k (x ∷ xs) (suc at) d within = lemma_there k xs at d (omega (arith, within))

make_lemma : State → ℕ → Rule → Lemma
make_lemma s bound rule = record { state = s; bound = bound; rule = rule }

lemma_read : (k : Kinds) (packed items : List Packed) (seen : List Lemma) (at : ℕ) (d : Packed) (s : State) → lemmas_in k packed ≡ seen → items ≡ packed → at < length seen → s ≡ state_of k (code_in (get_or items at d)) → slice_get seen at ≡ Some (record { state = s; bound = (get_or items at d).bound; rule = (get_or items at d).rule })
unfolding make_lemma
lemma_read k packed items seen at d s e same within is =
    subst (λ (xs : List Packed). s ≡ state_of k (code_in (get_or xs at d)) → slice_get seen at ≡ Some (make_lemma s (get_or xs at d).bound (get_or xs at d).rule)) (sym same)
    (λ f. ap (λ (xs : List Lemma). slice_get xs at) (sym e) ∙ lemma_there k packed at d (within_packed k packed seen at e within) ∙ ap (λ (z : State). Some (make_lemma z (get_or packed at d).bound (get_or packed at d).rule)) (sym f)) is

pub lemma_at : (k : Kinds) (packed items : List Packed) (seen : List Lemma) (at : ℕ) (d : Packed) (s : State) (code bound : ℕ) → lemmas_in k packed ≡ seen → items ≡ packed → at < length seen → code ≡ code_in (get_or items at d) → bound ≡ (get_or items at d).bound → s ≡ state_of k code → slice_get seen at ≡ Some (record { state = s; bound = bound; rule = (get_or items at d).rule })
unfolding make_lemma
lemma_at k packed items seen at d s code bound e same within same_code same_bound is =
    lemma_read k packed items seen at d s e same within (is ∙ ap (state_of k) same_code) ∙ ap (λ (b : ℕ). Some (make_lemma s b (get_or items at d).rule)) (sym same_bound)

-- each of them has counts for all kinds
all_have : (k : Kinds) (packed : List Packed) (room : Lemma) → length room.state.p_left ≡ length k.p → length room.state.n_left ≡ length k.n → All (HasRoom room) (lemmas_in k packed)
all_have k [] room p n = All-nil (HasRoom room)
all_have k (x ∷ xs) room p n = All-cons (HasRoom room) (lemma_in k x) (lemmas_in k xs) (record { p = p ∙ sym (counts_length k.p _); n = n ∙ sym (counts_length k.n _) }) (all_have k xs room p n)

pub rooms_all : (k : Kinds) (packed : List Packed) (seen : List Lemma) (room : Lemma) → lemmas_in k packed ≡ seen → length room.state.p_left ≡ length k.p → length room.state.n_left ≡ length k.n → All (HasRoom room) seen
rooms_all k packed seen room e p n = subst (All (HasRoom room)) e (all_have k packed room p n)

state_there : (k : Kinds) (packed : List Packed) (at : ℕ) (d : Lemma) → at < length packed → (code : ℕ) × ((get_or (lemmas_in k packed) at d).state ≡ state_of k code)
state_there k [] at d within = absurd (omega (arith, within))
state_there k (x ∷ xs) zero d within = (code_in x, refl)
state_there k (x ∷ xs) (suc at) d within = state_there k xs at d (omega (arith, within))

pub room_at : (k : Kinds) (packed : List Packed) (seen : List Lemma) (room : Lemma) (at : ℕ) → lemmas_in k packed ≡ seen → All (HasRoom room) seen → at < length seen → (length room.state.p_left ≡ length k.p) × (length room.state.n_left ≡ length k.n)
room_at k packed seen room at e all within =
    let there : (code : ℕ) × ((get_or (lemmas_in k packed) at room).state ≡ state_of k code) = state_there k packed at room (within_packed k packed seen at e within) in
    let is : (get_or seen at room).state ≡ state_of k there.0 = ap (λ (xs : List Lemma). (get_or xs at room).state) (sym e) ∙ there.1 in
    let h : HasRoom room (get_or seen at room) = all at room within in
    (h.p ∙ ap (λ (s : State). length s.p_left) is ∙ counts_length k.p _, h.n ∙ ap (λ (s : State). length s.n_left) is ∙ counts_length k.n _)

-- one lemma more, on a state with its number
pub code_of : (k : Kinds) (at : Numbered) → IsNumbered k at → IsCode k at.code
code_of k at h = (at.state, h.valid, sym h.code)

pub codes_more : (k own : Kinds) (packed more : List Packed) (x : Packed) (at : Numbered) → own ≡ k → IsNumbered k at → code_in x ≡ at.code → All (λ (y : Packed). IsCode own (code_in y)) packed → more ≡ packed ++ x ∷ [] → All (λ (y : Packed). IsCode own (code_in y)) more
codes_more k own packed more x at same numbered is all pushed =
    subst (All (λ (y : Packed). IsCode own (code_in y))) (sym pushed)
    (All-push (λ (y : Packed). IsCode own (code_in y)) packed x all (subst (IsCode own) (sym is) (subst (λ (z : Kinds). IsCode z at.code) (sym same) (code_of k at numbered))))

lemma_decoded : (k : Kinds) (x : Packed) (at : Numbered) (bound : ℕ) (rule : Rule) → IsNumbered k at → code_in x ≡ at.code → x.bound ≡ bound → x.rule ≡ rule → lemma_in k x ≡ lemma_of at.state bound rule
unfolding make_lemma
lemma_decoded k x at bound rule numbered is same_bound same_rule =
    ap (λ (s : State). make_lemma s x.bound x.rule) (ap (state_of k) (is ∙ numbered.code) ∙ decoded k at.state numbered.valid)
    ∙ ap (λ (b : ℕ). make_lemma at.state b x.rule) same_bound
    ∙ ap (make_lemma at.state bound) same_rule

pub lemmas_more : (k own : Kinds) (packed more : List Packed) (seen : List Lemma) (x : Packed) (at : Numbered) (bound : ℕ) (rule : Rule) → own ≡ k → IsNumbered k at → code_in x ≡ at.code → x.bound ≡ bound → x.rule ≡ rule → lemmas_in own packed ≡ seen → more ≡ packed ++ x ∷ [] → lemmas_in own more ≡ seen ++ lemma_of at.state bound rule ∷ []
lemmas_more k own packed more seen x at bound rule same numbered is same_bound same_rule e pushed =
    ap (lemmas_in own) pushed
    ∙ map-append (lemma_in own) packed (x ∷ [])
    ∙ ap (λ (xs : List Lemma). xs ++ lemma_in own x ∷ []) e
    ∙ ap (λ (z : Kinds). seen ++ lemma_in z x ∷ []) same
    ∙ ap (λ (y : Lemma). seen ++ y ∷ []) (lemma_decoded k x at bound rule numbered is same_bound same_rule)
