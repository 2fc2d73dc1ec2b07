-- A state whose counts and ends were read is valid where each gate keeps its lead.
use Rattle.std.specs.Prelude.{ℕ, ◌≡◌, ◌+◌, ◌≤◌, ◌<◌, Bool, true, false, ◌==◌, leb, List, [], ◌∷◌, Option, Some, None, length, option_map, codes}
use Rattle.std.specs.List.{zip, list_all}
use Rattle.std.proofs.Common.{refl, sym, ap, arith, ◌∙◌}
use Rattle.std.proofs.lemmas.Bool.{and_from, and_parts, eq-eqb, eqb-true, le-leb, lt-ltb}
use Rattle.std.proofs.lemmas.Option.{none-some, same_Some}
use Rattle.cell_num.specs.declared.net.NetNo.{NetNo}
use Rattle.row_state.specs.declared.kind.Kind.{Kind}
use Rattle.row_state.specs.declared.kind.Kinds.{Kinds}
use Rattle.row_state.specs.declared.state.State.{State}
use Rattle.row_state.specs.Tests.{counts_fit, end_fits, leads_below, state_test}
use Rattle.log_lines.specs.Words.{is_word, number_below, parts_at}
use Rattle.log_lines.proofs.Numbers.{found_below}
use Rattle.bound_log.specs.Line.{◌>>=◌, counts_each, counts_in, end_in}

one_fits : (kind : Kind) (kinds : List Kind) (count : ℕ) (counts : List ℕ) → count < kind.count + 1 → counts_fit kinds counts ≡ true → counts_fit (kind ∷ kinds) (count ∷ counts) ≡ true
one_fits kind kinds count counts below fits =
    let rest : ((length counts == length kinds) ≡ true) × (list_all (λ (pair : Kind × ℕ). leb pair.1 pair.0.count) (zip kinds counts) ≡ true) = and_parts _ _ fits in
    let same : length counts ≡ length kinds = eqb-true _ _ rest.0 in
    let longer : length (count ∷ counts) ≡ length (kind ∷ kinds) = omega (arith, same) in
    let here : count ≤ kind.count = omega (arith, below) in
    and_from _ _ (eq-eqb _ _ longer) (and_from _ _ (le-leb _ _ here) rest.1)

each_fits : (kinds : List Kind) (words : List (List ℕ)) (counts : List ℕ) → counts_each kinds words ≡ Some counts → counts_fit kinds counts ≡ true
each_fits [] [] [] e = refl
each_fits [] [] (c ∷ cs) e = absurd cc
each_fits [] (word ∷ words) counts e = absurd (none-some counts e)
each_fits (kind ∷ kinds) [] counts e = absurd (none-some counts e)
each_fits (kind ∷ kinds) (word ∷ words) counts e = by_count (λ rest is. each_fits kinds words rest is) (number_below (kind.count + 1) word) refl
  where
    by_rest : ((rest : List ℕ) → counts_each kinds words ≡ Some rest → counts_fit kinds rest ≡ true) → (count : ℕ) → count < kind.count + 1 → (o : Option (List ℕ)) → counts_each kinds words ≡ o → (o >>= λ rest. Some (count ∷ rest)) ≡ Some counts → counts_fit (kind ∷ kinds) counts ≡ true
    by_rest fits count below None is h = absurd (none-some counts h)
    by_rest fits count below (Some rest) is h = ap (counts_fit (kind ∷ kinds)) (sym (same_Some _ _ h)) ∙ one_fits kind kinds count rest below (fits rest is)

    by_count : ((rest : List ℕ) → counts_each kinds words ≡ Some rest → counts_fit kinds rest ≡ true) → (o : Option ℕ) → number_below (kind.count + 1) word ≡ o → counts_fit (kind ∷ kinds) counts ≡ true
    by_count fits None is = absurd (none-some counts (rw is at e))
    by_count fits (Some count) is = by_rest fits count (found_below (kind.count + 1) word count is).1 (counts_each kinds words) refl (rw is at e)

-- the counts that a word says fit
pub counts_read : (kinds : List Kind) (word counts : List ℕ) → Some counts ≡ counts_in kinds word → counts_fit kinds counts ≡ true
counts_read [] word counts e = by_word (is_word word (codes "-")) refl
  where
    none_read : (cs : List ℕ) → Some [] ≡ Some cs → counts_fit [] cs ≡ true
    none_read [] h = refl
    none_read (c ∷ cs) h = absurd cc

    by_word : (b : Bool) → is_word word (codes "-") ≡ b → counts_fit [] counts ≡ true
    by_word true is = none_read counts (sym (rw is at e))
    by_word false is = absurd (none-some counts (sym (rw is at e)))
counts_read (kind ∷ kinds) word counts e = each_fits (kind ∷ kinds) (parts_at 44 word) counts (sym e)

-- the end that a word says is a net
pub end_read : (nets : ℕ) (word : List ℕ) (end : Option NetNo) → Some end ≡ end_in nets word → end_fits end nets ≡ true
end_read nets word None e = refl
end_read nets word (Some v) e = by_word (is_word word (codes "-")) refl
  where
    net_is : (n : ℕ) → Some (Some (record { 0 = n })) ≡ Some (Some v) → n ≡ v.0
    net_is n h = ap (λ (x : NetNo). x.0) (same_Some _ _ (same_Some _ _ h))

    by_number : (o : Option ℕ) → number_below nets word ≡ o → option_map (λ n. Some (record { 0 = n })) o ≡ Some (Some v) → end_fits (Some v) nets ≡ true
    by_number None is h = absurd (none-some _ h)
    by_number (Some n) is h = lt-ltb _ _ (omega (arith, (found_below nets word n is).1, net_is n h))

    by_word : (b : Bool) → is_word word (codes "-") ≡ b → end_fits (Some v) nets ≡ true
    by_word true is = absurd (none-some v (same_Some _ _ (sym (rw is at e))))
    by_word false is = by_number (number_below nets word) refl (sym (rw is at e))

pub is_tested : (k : Kinds) (s : State) (answer : Bool) → counts_fit k.p s.p_left ≡ true → counts_fit k.n s.n_left ≡ true → end_fits s.p_end k.nets ≡ true → end_fits s.n_end k.nets ≡ true → answer ≡ leads_below k s k.nets → answer ≡ state_test k s
is_tested k s answer p n p_end n_end e = e ∙ by_leads (leads_below k s k.nets) refl
  where
    by_leads : (b : Bool) → leads_below k s k.nets ≡ b → b ≡ state_test k s
    by_leads true h = rw (p, n, h, p_end, n_end) refl
    by_leads false h = rw (p, n, h) refl
