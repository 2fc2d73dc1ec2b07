-- Balances of pools, written and read.
use Rattle.std.specs.Prelude.{ℕ, ◌≡◌, ◌+◌, ◌<◌, ◌≤◌, ◌==◌, true, false, leb, List, [], ◌∷◌, ◌++◌, Option, Some, None, All, length, map, codes, decimal}
use Rattle.std.proofs.Common.{refl, ap, subst, arith, ◌∙◌, ◌⊎◌, inl, inr}
use Rattle.std.specs.List.{join_with_byte}
use Rattle.std.proofs.lemmas.Bool.{le-leb, leb-true}
use Rattle.std.proofs.lemmas.Fmt.{decimal_nonempty}
use Rattle.std.proofs.lemmas.List.{length-append}
use Rattle.std.proofs.lemmas.List.Elements.{All-append, All-cons, All-head, All-nil}
use Rattle.std.proofs.lemmas.Option.{none-some, same_Some}
use Rattle.log_lines.specs.Words.{is_word, number_below, parts_at}
use Rattle.log_lines.proofs.Decimals.{above_decimal}
use Rattle.log_lines.proofs.Numbers.{found_below, is_below, is_other}
use Rattle.log_lines.proofs.Splits.{IsAbove, Lacks, above_more, split_joined}
use Rattle.bound_log.proofs.Spelled.{bound, is_provided}
use Rattle.trail_log.specs.Listed.{each_in, list_in, net_in}
use Rattle.trail_log.specs.Spelling.{list_text}
use Rattle.trail_log.proofs.Items.{ReadsAgain, ReadsOnly, Spares, all_of, decimal_lacks, each_again, joined_parts, net_again, net_only}
use Rattle.pool_log.specs.declared.balance.PoolBalance.{PoolBalance}
use Rattle.pool_log.specs.declared.balance.Surplus.{Surplus}
use Rattle.pool_log.specs.declared.balance.Surplus.TheVariants as surplus
use Rattle.pool_log.specs.Fits.{BalanceFits, count_of}
use Rattle.pool_log.specs.Line.{balance_in, count_in, either, free_of, waiting_of}
use Rattle.pool_log.specs.Text.{balance_text, surplus_text}

-- ---- counts

pub count_only : (word : List ℕ) (count : ℕ) → count_in word ≡ Some count → (word ≡ decimal count) × (1 ≤ count) × (count ≤ 64)
count_only word count h =
    let found = bound (number_below 65 word) _ count h in
    let some = is_provided (leb 1 found.0) _ count found.2 in
    let is : (word ≡ decimal found.0) × (found.0 < 65) = found_below 65 word found.0 found.1 in
    subst (λ (n : ℕ). (word ≡ decimal n) × (1 ≤ n) × (n ≤ 64)) (same_Some found.0 count some.1) (is.0, leb-true 1 found.0 some.0, omega (arith, is.1))

pub count_again : (count : ℕ) → 1 ≤ count → count ≤ 64 → count_in (decimal count) ≡ Some count
count_again count some few = rw (is_below 65 (decimal count) count refl (omega (arith, few)) (omega arith), le-leb 1 count some) refl

-- ---- either of two

pub either_some : {A : Type 0} (first second : Option A) (item : A) → either first second ≡ Some item → (first ≡ Some item) ⊎ (second ≡ Some item)
either_some (Some a) second item h = inl h
either_some None second item h = inr h

-- ---- two words with a byte between

pub joined_two : (c : ℕ) (a b x y : List ℕ) → a ≡ x → b ≡ y → a ++ (c ∷ b) ≡ x ++ (c ∷ y)
joined_two c a b x y first second = rw (first, second) refl

-- ---- balances

free_words : (nets : ℕ) (words : List (List ℕ)) (balance : PoolBalance) → free_of nets words ≡ Some balance → (join_with_byte 45 words ≡ balance_text balance) × BalanceFits nets balance
free_words nets [] balance h = absurd (none-some balance h)
free_words nets (a ∷ []) balance h = absurd (none-some balance h)
free_words nets (a ∷ b ∷ c ∷ rest) balance h = absurd (none-some balance h)
free_words nets (a ∷ b ∷ []) balance h =
    let net = bound (net_in nets a) _ balance h in
    let count = bound (count_in b) _ balance net.2 in
    let net_is = net_only nets a net.0 net.1 in
    let count_is = count_only b count.0 count.1 in
    subst (λ (x : PoolBalance). (a ++ (45 ∷ b) ≡ balance_text x) × BalanceFits nets x) (same_Some (record { net = net.0; surplus = surplus.Free count.0 }) balance count.2)
    (joined_two 45 a b (decimal net.0.0) (decimal count.0) net_is.0 count_is.0, record { net = net_is.1; some = count_is.1; few = count_is.2 })

waiting_words : (nets : ℕ) (words : List (List ℕ)) (balance : PoolBalance) → waiting_of nets words ≡ Some balance → (join_with_byte 43 words ≡ balance_text balance) × BalanceFits nets balance
waiting_words nets [] balance h = absurd (none-some balance h)
waiting_words nets (a ∷ []) balance h = absurd (none-some balance h)
waiting_words nets (a ∷ b ∷ c ∷ rest) balance h = absurd (none-some balance h)
waiting_words nets (a ∷ b ∷ []) balance h =
    let net = bound (net_in nets a) _ balance h in
    let count = bound (count_in b) _ balance net.2 in
    let net_is = net_only nets a net.0 net.1 in
    let count_is = count_only b count.0 count.1 in
    subst (λ (x : PoolBalance). (a ++ (43 ∷ b) ≡ balance_text x) × BalanceFits nets x) (same_Some (record { net = net.0; surplus = surplus.Waiting count.0 }) balance count.2)
    (joined_two 43 a b (decimal net.0.0) (decimal count.0) net_is.0 count_is.0, record { net = net_is.1; some = count_is.1; few = count_is.2 })

pub balance_only : (nets : ℕ) → ReadsOnly (balance_in nets) balance_text (BalanceFits nets)
balance_only nets word balance h =
    elim (either_some (free_of nets (parts_at 45 word)) (waiting_of nets (parts_at 43 word)) balance h) [
      | inl free ↦
          let read = free_words nets (parts_at 45 word) balance free in
          (joined_parts 45 word (parts_at 45 word) refl ∙ read.0, read.1)
      | inr waiting ↦
          let read = waiting_words nets (parts_at 43 word) balance waiting in
          (joined_parts 43 word (parts_at 43 word) refl ∙ read.0, read.1)
    ]

-- two numbers with a byte between
two_parts : (c a b : ℕ) → c ≤ 47 → parts_at c (decimal a ++ (c ∷ decimal b)) ≡ decimal a ∷ decimal b ∷ []
two_parts c a b few = split_joined c (decimal a) (decimal b ∷ []) (decimal_lacks c a few) (All-cons (Lacks c) (decimal b) [] (decimal_lacks c b few) (All-nil (Lacks c)))

-- one part where the other byte stands between
one_part : (net nodes : ℕ) → parts_at 45 (decimal net ++ (43 ∷ decimal nodes)) ≡ (decimal net ++ (43 ∷ decimal nodes)) ∷ []
one_part net nodes = split_joined 45 (decimal net ++ (43 ∷ decimal nodes)) [] lack (All-nil (Lacks 45))
  where
    lack : Lacks 45 (decimal net ++ (43 ∷ decimal nodes))
    lack = All-append (λ b. (b == 45) ≡ false) (decimal net) (43 ∷ decimal nodes) (decimal_lacks 45 net (omega arith)) (All-cons (λ b. (b == 45) ≡ false) 43 (decimal nodes) refl (decimal_lacks 45 nodes (omega arith)))

free_again : (nets net ends : ℕ) → nets ≤ 256 → net < nets → 1 ≤ ends → ends ≤ 64 → balance_in nets (decimal net ++ (45 ∷ decimal ends)) ≡ Some (record { net = record { 0 = net }; surplus = surplus.Free ends })
free_again nets net ends few fits some most = rw (two_parts 45 net ends (omega arith), net_again nets few (record { 0 = net }) fits, count_again ends some most) refl

waiting_again : (nets net nodes : ℕ) → nets ≤ 256 → net < nets → 1 ≤ nodes → nodes ≤ 64 → balance_in nets (decimal net ++ (43 ∷ decimal nodes)) ≡ Some (record { net = record { 0 = net }; surplus = surplus.Waiting nodes })
waiting_again nets net nodes few fits some most = rw (one_part net nodes, two_parts 43 net nodes (omega arith), net_again nets few (record { 0 = net }) fits, count_again nodes some most) refl

pub balance_again : (nets : ℕ) → nets ≤ 256 → ReadsAgain (balance_in nets) balance_text (BalanceFits nets)
balance_again nets few balance fits = by balance.surplus fits.some fits.few
  where
    by : (s : Surplus) → 1 ≤ count_of s → count_of s ≤ 64 → balance_in nets (decimal balance.net.0 ++ surplus_text s) ≡ Some (record { net = balance.net; surplus = s })
    by (surplus.Free ends) some most = free_again nets balance.net.0 ends few fits.net some most
    by (surplus.Waiting nodes) some most = waiting_again nets balance.net.0 nodes few fits.net some most

-- ---- bytes of balances

surplus_above : (c : ℕ) (s : Surplus) → c ≤ 42 → IsAbove c (surplus_text s)
surplus_above c (surplus.Waiting nodes) few = All-cons (λ b. c < b) 43 (decimal nodes) (omega (arith, few)) (above_more 47 c (decimal nodes) (omega (arith, few)) (above_decimal nodes))
surplus_above c (surplus.Free ends) few = All-cons (λ b. c < b) 45 (decimal ends) (omega (arith, few)) (above_more 47 c (decimal ends) (omega (arith, few)) (above_decimal ends))

pub balance_above : (balance : PoolBalance) → IsAbove 32 (balance_text balance)
balance_above balance = All-append (λ b. 32 < b) (decimal balance.net.0) (surplus_text balance.surplus) (above_more 47 32 (decimal balance.net.0) (omega arith) (above_decimal balance.net.0)) (surplus_above 32 balance.surplus (omega arith))

surplus_spares : (s : Surplus) → Lacks 44 (surplus_text s)
surplus_spares (surplus.Waiting nodes) = All-cons (λ b. (b == 44) ≡ false) 43 (decimal nodes) refl (decimal_lacks 44 nodes (omega arith))
surplus_spares (surplus.Free ends) = All-cons (λ b. (b == 44) ≡ false) 45 (decimal ends) refl (decimal_lacks 44 ends (omega arith))

balance_spares : Spares 44 balance_text
balance_spares balance = All-append (λ b. (b == 44) ≡ false) (decimal balance.net.0) (surplus_text balance.surplus) (decimal_lacks 44 balance.net.0 (omega arith)) (surplus_spares balance.surplus)

-- a balance is more than a dash
balance_long : (nets : ℕ) (balance : PoolBalance) → nets ≤ 256 → BalanceFits nets balance → 2 ≤ length (balance_text balance)
balance_long nets balance few fits =
    let some : 0 < length (decimal balance.net.0) = decimal_nonempty balance.net.0 (omega (arith, few, fits.net)) in
    omega (arith, length-append (decimal balance.net.0) (surplus_text balance.surplus), some, some_surplus balance.surplus)
  where
    some_surplus : (s : Surplus) → 1 ≤ length (surplus_text s)
    some_surplus (surplus.Waiting nodes) = omega arith
    some_surplus (surplus.Free ends) = omega arith

-- ---- lists of balances

joined_long : (c : ℕ) (word : List ℕ) (words : List (List ℕ)) → 2 ≤ length word → 2 ≤ length (join_with_byte c (word ∷ words))
joined_long c word [] long = long
joined_long c word (next ∷ words) long = omega (arith, long, length-append word (c ∷ join_with_byte c (next ∷ words)))

no_dash : (text : List ℕ) → 2 ≤ length text → is_word text (codes "-") ≡ false
no_dash text long = is_other text (codes "-") (λ e. omega (arith, long, ap length e))

pub balances_again : (nets : ℕ) (balances : List PoolBalance) → nets ≤ 256 → All (BalanceFits nets) balances → list_in 44 (balance_in nets) (list_text 44 (map balance_text balances)) ≡ Some balances
balances_again nets [] few h = refl
balances_again nets (balance ∷ balances) few h =
    let words = map balance_text (balance ∷ balances) in
    let no : is_word (join_with_byte 44 words) (codes "-") ≡ false = no_dash (join_with_byte 44 words) (joined_long 44 (balance_text balance) (map balance_text balances) (balance_long nets balance few (All-head (BalanceFits nets) balance balances h))) in
    rw no
    (ap (each_in (balance_in nets)) (split_joined 44 (balance_text balance) (map balance_text balances) (balance_spares balance) (all_of balance_text (Lacks 44) balances balance_spares))
    ∙ each_again (balance_in nets) balance_text (BalanceFits nets) (balance ∷ balances) (balance_again nets few) h)

-- ---- words of balances

pub long_free : (nets : ℕ) (words : List (List ℕ)) → 2 < length words → free_of nets words ≡ None
long_free nets [] more = refl
long_free nets (a ∷ []) more = refl
long_free nets (a ∷ b ∷ []) more = absurd (omega (arith, more))
long_free nets (a ∷ b ∷ c ∷ rest) more = refl

pub long_waiting : (nets : ℕ) (words : List (List ℕ)) → 2 < length words → waiting_of nets words ≡ None
long_waiting nets [] more = refl
long_waiting nets (a ∷ []) more = refl
long_waiting nets (a ∷ b ∷ []) more = absurd (omega (arith, more))
long_waiting nets (a ∷ b ∷ c ∷ rest) more = refl
