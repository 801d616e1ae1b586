-- The word that is noted stays so as words are put.
use Rattle.std.proofs.Common.{◌≡◌, ℕ, ◌≤◌, List, [], ◌∷◌, ◌++◌, Option, None, Some, get_or, length, refl, sym, ap, ◌∙◌, subst, arith}
use Rattle.std.proofs.lemmas.List.{append-nil, append_assoc}
use Rattle.std.proofs.lemmas.Option.{slice_get_within}
use Rattle.fst_semiring.specs.declared.arc_type.ArcType.{ArcType}
use Rattle.fst_machine.specs.Graph.{Graph}
use Rattle.fst_machine.proofs.Arcs.{at_append_front, at_append_left}
use Rattle.fst_setops.specs.Kept.{Node}
use Rattle.fst_setops.specs.Sought.{AreBefore, IsNoted, words_behind, words_of}
use Rattle.fst_setops.proofs.SoughtWords.{words_size}

module _ {V : Type 0} where
  behind_more : (made : List (List ℕ)) (nodes : List (Node V)) → (more : List (List ℕ)) × (words_behind made nodes ≡ made ++ more)
  behind_more made [] = ([], sym (append-nil made))
  behind_more made (n ∷ nodes) =
      let w = get_or made n.parent [] ++ n.label ∷ [] in
      let rest = behind_more (made ++ w ∷ []) nodes in
      (w ∷ rest.0, rest.1 ∙ append_assoc made (w ∷ []) rest.0)

  behind_both : (made : List (List ℕ)) (nodes others : List (Node V)) → words_behind made (nodes ++ others) ≡ words_behind (words_behind made nodes) others
  behind_both made [] others = refl
  behind_both made (n ∷ nodes) others = behind_both (made ++ (get_or made n.parent [] ++ n.label ∷ []) ∷ []) nodes others

  -- the words of the earlier nodes come first
  words_more : (nodes others : List (Node V)) → (more : List (List ℕ)) × (words_of (nodes ++ others) ≡ words_of nodes ++ more)
  words_more [] others = (words_of others, refl)
  words_more (n ∷ nodes) others = let rest = behind_more (words_behind ([] ∷ []) nodes) others in (rest.0, behind_both ([] ∷ []) nodes others ∙ rest.1)

pub noted_more : {V : Type 0} (kind : ArcType) (g h : Graph ℕ) (nodes grown : List (Node V)) (taken : ℕ) (o : Option ℕ) → taken ≤ length nodes → AreBefore nodes grown → IsNoted kind g h (words_of nodes) taken o → IsNoted kind g h (words_of grown) taken o
noted_more kind g h nodes grown taken o low before noted =
    let w = words_more nodes before.0 in
    let size = words_size nodes in
    subst (λ ws. IsNoted kind g h ws taken o) (sym (ap words_of before.1 ∙ w.1)) (by (words_of nodes) w.0 o (omega (arith, low, size)) noted)
  where
    by : (words more : List (List ℕ)) (o : Option ℕ) → taken ≤ length words → IsNoted kind g h words taken o → IsNoted kind g h (words ++ more) taken o
    by words more None low all = λ i u less at. all i u less (at_append_front words more i u (omega (arith, low, less)) at)
    by words more (Some place) low n =
        let inside = slice_get_within words place n.0 n.1 in
        (n.0, at_append_left words more place n.0 n.1, n.2, (λ i u less at. n.3 i u less (at_append_front words more i u (omega (arith, less, inside)) at)))
