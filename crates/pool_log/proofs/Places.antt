-- Nodes and pools, written and read.
use Rattle.std.specs.Prelude.{ℕ, ◌≡◌, ◌≢◌, ◌<◌, ◌≤◌, ◌==◌, false, List, [], ◌∷◌, ◌++◌, Some, None, All, length, codes, decimal}
use Rattle.std.proofs.Common.{refl, sym, ap, subst, arith, ◌∙◌, inl, inr}
use Rattle.std.specs.List.{join_with_byte}
use Rattle.std.proofs.lemmas.Bool.{ne_eqb}
use Rattle.std.proofs.lemmas.List.Elements.{All-append, All-cons, All-head, All-nil}
use Rattle.std.proofs.lemmas.Option.{none-some}
use Rattle.cell_num.specs.declared.finger.Row.{Row}
use Rattle.cell_num.specs.declared.finger.Row.TheVariants.{P, N}
use Rattle.cell_num.specs.declared.net.NetNo.{NetNo}
use Rattle.log_lines.specs.Words.{is_word, parts_at}
use Rattle.log_lines.proofs.Decimals.{above_decimal}
use Rattle.log_lines.proofs.Numbers.{chosen, is_other, no_number, same_words}
use Rattle.log_lines.proofs.Splits.{IsAbove, Lacks, above_lacks, above_more, split_joined}
use Rattle.bound_log.proofs.Spelled.{mapped}
use Rattle.trail_log.specs.Listed.{net_in, node_in}
use Rattle.trail_log.proofs.Classes.{node_above, node_again, node_only}
use Rattle.trail_log.proofs.Items.{ReadsAgain, ReadsOnly, Spares, decimal_lacks, joined_parts, net_again, net_only}
use Rattle.pool_log.specs.declared.place.ListedPlace.{ListedPlace}
use Rattle.pool_log.specs.declared.place.ListedPlace.TheVariants as place
use Rattle.pool_log.specs.Fits.{PlaceFits}
use Rattle.pool_log.specs.Line.{place_in, pool_in, pool_of}
use Rattle.pool_log.specs.Text.{place_text}
use Rattle.pool_log.proofs.Balances.{either_some, joined_two}

-- ---- stars

-- a number is no star
number_star : (n : ℕ) → decimal n ≢ codes "*"
number_star n e =
    let above : 47 < 42 = All-head (λ b. 47 < b) 42 [] (subst (IsAbove 47) e (above_decimal n)) in
    absurd (omega (arith, above))

star_net : (nets : ℕ) → nets ≤ 256 → net_in nets (codes "*") ≡ None
star_net nets few =
    let none : (n : ℕ) → n < 1000 → codes "*" ≢ decimal n = λ n small e. number_star n (sym e) in
    rw (no_number nets (codes "*") none (omega (arith, few))) refl

-- ---- what is read is how it is written

pool_words : (row : Row) (nets : ℕ) (word : List ℕ) (p : ListedPlace) → pool_in row nets word ≡ Some p → (net : NetNo) × (place.Pool row net ≡ p) × (word ≡ decimal net.0) × (net.0 < nets)
pool_words row nets word p h =
    let net = mapped (place.Pool row) (net_in nets word) p h in
    let is = net_only nets word net.0 net.1 in
    (net.0, net.2, is.0, is.1)

of_words : (nets : ℕ) (words : List (List ℕ)) (p : ListedPlace) → pool_of nets words ≡ Some p → (join_with_byte 46 words ≡ place_text p) × PlaceFits nets p
of_words nets [] p h = absurd (none-some p h)
of_words nets (a ∷ []) p h = absurd (none-some p h)
of_words nets (a ∷ b ∷ c ∷ rest) p h = absurd (none-some p h)
of_words nets (a ∷ b ∷ []) p h =
    elim (chosen (is_word b (codes "*")) _ _ _ h) [
      | inl y ↦
          let pool = pool_words P nets a p y.1 in
          subst (λ (x : ListedPlace). (a ++ (46 ∷ b) ≡ place_text x) × PlaceFits nets x) pool.1 (joined_two 46 a b (decimal pool.0.0) (codes "*") pool.2 (same_words b (codes "*") y.0), pool.3)
      | inr other ↦ elim (chosen (is_word a (codes "*")) _ _ _ other.1) [
        | inl y ↦
            let pool = pool_words N nets b p y.1 in
            subst (λ (x : ListedPlace). (a ++ (46 ∷ b) ≡ place_text x) × PlaceFits nets x) pool.1 (joined_two 46 a b (codes "*") (decimal pool.0.0) (same_words a (codes "*") y.0) pool.2, pool.3)
        | inr none ↦ absurd (none-some p none.1)
      ]
    ]

pub place_only : (nets : ℕ) → ReadsOnly (place_in nets) place_text (PlaceFits nets)
place_only nets word p h =
    elim (either_some _ (pool_of nets (parts_at 46 word)) p h) [
      | inl node ↦
          let pair = mapped place.Node (node_in nets word) p node in
          let read = node_only nets word pair.0 pair.1 in
          subst (λ (x : ListedPlace). (word ≡ place_text x) × PlaceFits nets x) pair.2 read
      | inr pool ↦
          let read = of_words nets (parts_at 46 word) p pool in
          (joined_parts 46 word (parts_at 46 word) refl ∙ read.0, read.1)
    ]

-- ---- what is written is read again

two_parts : (a b : List ℕ) → Lacks 46 a → Lacks 46 b → parts_at 46 (a ++ (46 ∷ b)) ≡ a ∷ b ∷ []
two_parts a b lack other = split_joined 46 a (b ∷ []) lack (All-cons (Lacks 46) b [] other (All-nil (Lacks 46)))

star_lacks : Lacks 46 (codes "*")
star_lacks = All-cons (λ b. (b == 46) ≡ false) 42 [] refl (All-nil (λ b. (b == 46) ≡ false))

p_again : (nets : ℕ) (net : NetNo) → nets ≤ 256 → net.0 < nets → place_in nets (decimal net.0 ++ codes ".*") ≡ Some (place.Pool P net)
p_again nets net few fits =
    rw (two_parts (decimal net.0) (codes "*") (decimal_lacks 46 net.0 (omega arith)) star_lacks, net_again nets few net fits, star_net nets few) refl

n_again : (nets : ℕ) (net : NetNo) → nets ≤ 256 → net.0 < nets → place_in nets (codes "*." ++ decimal net.0) ≡ Some (place.Pool N net)
n_again nets net few fits =
    rw (two_parts (codes "*") (decimal net.0) star_lacks (decimal_lacks 46 net.0 (omega arith)), star_net nets few, net_again nets few net fits, is_other (decimal net.0) (codes "*") (number_star net.0)) refl

pub place_again : (nets : ℕ) → nets ≤ 256 → ReadsAgain (place_in nets) place_text (PlaceFits nets)
place_again nets few (place.Node node) fits = rw (node_again nets few node fits) refl
place_again nets few (place.Pool P net) fits = p_again nets net few fits
place_again nets few (place.Pool N net) fits = n_again nets net few fits

-- ---- bytes of places

point : (c : ℕ) → c ≤ 45 → (46 == c) ≡ false
point c few = ne_eqb 46 c (λ e. omega (arith, e, few))

-- digits, points and stars
pub place_above : (c : ℕ) (p : ListedPlace) → c ≤ 41 → IsAbove c (place_text p)
place_above c (place.Node node) few = node_above c node (omega (arith, few))
place_above c (place.Pool P net) few =
    All-append (λ b. c < b) (decimal net.0) (codes ".*") (above_more 47 c (decimal net.0) (omega (arith, few)) (above_decimal net.0))
    (All-cons (λ b. c < b) 46 (42 ∷ []) (omega (arith, few)) (All-cons (λ b. c < b) 42 [] (omega (arith, few)) (All-nil (λ b. c < b))))
place_above c (place.Pool N net) few =
    All-cons (λ b. c < b) 42 (46 ∷ decimal net.0) (omega (arith, few)) (All-cons (λ b. c < b) 46 (decimal net.0) (omega (arith, few)) (above_more 47 c (decimal net.0) (omega (arith, few)) (above_decimal net.0)))

pub place_lacks : (c : ℕ) → c ≤ 45 → (42 == c) ≡ false → Spares c place_text
place_lacks c few other (place.Node node) = above_lacks 45 c (place_text (place.Node node)) few (node_above 45 node (omega arith))
place_lacks c few other (place.Pool P net) =
    All-append (λ b. (b == c) ≡ false) (decimal net.0) (codes ".*") (decimal_lacks c net.0 (omega (arith, few)))
    (All-cons (λ b. (b == c) ≡ false) 46 (42 ∷ []) (point c few) (All-cons (λ b. (b == c) ≡ false) 42 [] other (All-nil (λ b. (b == c) ≡ false))))
place_lacks c few other (place.Pool N net) =
    All-cons (λ b. (b == c) ≡ false) 42 (46 ∷ decimal net.0) other (All-cons (λ b. (b == c) ≡ false) 46 (decimal net.0) (point c few) (decimal_lacks c net.0 (omega (arith, few))))

-- ---- words of places

pub long_pool : (nets : ℕ) (words : List (List ℕ)) → 2 < length words → pool_of nets words ≡ None
long_pool nets [] more = refl
long_pool nets (a ∷ []) more = refl
long_pool nets (a ∷ b ∷ []) more = absurd (omega (arith, more))
long_pool nets (a ∷ b ∷ c ∷ rest) more = refl
