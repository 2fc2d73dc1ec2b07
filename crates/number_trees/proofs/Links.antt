-- Links, joined one by one: numbers are in one tree where links chain them, and their labels tell it.
use Rattle.std.proofs.Common.{◌≡◌, ℕ, ◌+◌, ◌<◌, List, [], ◌∷◌, ◌++◌, length, get_or, take, refl, sym, subst, inl, inr, ◌⊎◌}
use Rattle.std.specs.List.{All, range_with_len}
use Rattle.std.proofs.lemmas.List.{take_more}
use Rattle.std.proofs.lemmas.List.Elements.{Contains-append_left, Contains-push, Contains-push_cases, All-get_or}
use Rattle.cell_num.proofs.Lists.{contains_none}
use Rattle.number_trees.proofs.Chains.{one}
use Rattle.number_trees.specs.declared.linking.Link.{Link}
use Rattle.number_trees.specs.Links.{IsLink, Tied, Separates}
use Rattle.number_trees.specs.Classes.{InTree, IsJoined, AreRoots, AreSound, AreTrees, AreLeast, IsTried}
use Rattle.number_trees.proofs.Classing.{GoesBack, rechained, first_sound, chained_same, same_chained}
use Rattle.number_trees.proofs.Forests.{joining_is, tree_back, trees_least}

tied_back : (es : List Link) → GoesBack (Tied es)
tied_back es i j t = record { link = t.link; listed = t.listed; ends = elim t.ends [ inl h ↦ inr h | inr h ↦ inl h ] }

-- ---- one more link
sound_more : (n : ℕ) (es : List Link) (e : Link) (ls : List ℕ) → AreSound n (Tied es) ls → AreSound n (Tied (es ++ e ∷ [])) ls
sound_more n es e ls is = record {
  count = is.count;
  low = is.low;
  reach = λ i l. rechained (Tied es) (Tied (es ++ e ∷ [])) (λ a b t. one (Tied (es ++ e ∷ [])) a b (record { link = t.link; listed = Contains-append_left es (e ∷ []) t.link t.listed; ends = t.ends })) i (get_or ls i 0) (is.reach i l);
}

linked_is : (n : ℕ) (es : List Link) (e : Link) (old new : List ℕ) → IsLink n e → IsJoined e.one e.other old new → AreTrees n (Tied es) old → AreTrees n (Tied (es ++ e ∷ [])) new
linked_is n es e old new within q was = record {
  sound = t.sound;
  joined = λ i j r. elim (Contains-push_cases es e r.link r.listed) [
    | inl before ↦ t.keeps.kept i j (was.joined i j (record { link = r.link; listed = before; ends = r.ends }))
    | inr same ↦ by_link i j (subst (λ (z : Link). ((z.one ≡ i) × (z.other ≡ j)) ⊎ ((z.one ≡ j) × (z.other ≡ i))) (sym same) r.ends)
  ];
}
  where
    tie : Tied (es ++ e ∷ []) e.one e.other
    tie = record { link = e; listed = Contains-push es e; ends = inl (refl, refl) }

    t : IsTried n (Tied (es ++ e ∷ [])) (Tied (es ++ e ∷ [])) e.one e.other old new
    t = joining_is n (Tied (es ++ e ∷ [])) (Tied (es ++ e ∷ [])) (tied_back (es ++ e ∷ [])) e.one e.other old new within.one within.other tie (sound_more n es e old was.sound) q

    tree : (i j : ℕ) → e.one ≡ i → e.other ≡ j → InTree new i j
    tree i j a b = subst (λ z. InTree new z j) a (subst (λ z. InTree new e.one z) b (t.joined tie))

    by_link : (i j : ℕ) → ((e.one ≡ i) × (e.other ≡ j)) ⊎ ((e.one ≡ j) × (e.other ≡ i)) → InTree new i j
    by_link i j (inl (a, b)) = tree i j a b
    by_link i j (inr (a, b)) = tree_back new j i (tree j i a b)

-- ---- the links of a list
pub none_linked : (n : ℕ) (ls : List ℕ) → ls ≡ range_with_len 0 n → AreTrees n (Tied []) ls
none_linked n ls e = record { sound = first_sound n (Tied []) ls e; joined = λ i j t. absurd (contains_none t.link t.listed) }

abbrev blank : Link
blank = record { one = 0; other = 0 }

pub more_linked : (n : ℕ) (links : List Link) (i : ℕ) (old new : List ℕ) → i < length links → All (IsLink n) links → IsJoined (get_or links i blank).one (get_or links i blank).other old new → AreTrees n (Tied (take i links)) old → AreTrees n (Tied (take (i + 1) links)) new
more_linked n links i old new l all q was = subst (λ es. AreTrees n (Tied es) new) (sym (take_more links i blank l)) (linked_is n (take i links) (get_or links i blank) old new (All-get_or (IsLink n) links i blank l all) q was)

-- ---- the labels
pub labels_separate : (n : ℕ) (links : List Link) (ls labels : List ℕ) → AreTrees n (Tied links) ls → AreRoots ls labels → Separates n links labels
labels_separate n links ls labels trees roots = record { same = λ i j li lj. (λ e. same_chained n (Tied links) (tied_back links) labels least i j li lj e, λ c. chained_same n (Tied links) labels least i j c) }
  where
    least : AreLeast n (Tied links) labels
    least = trees_least n (Tied links) (tied_back links) ls labels trees roots
