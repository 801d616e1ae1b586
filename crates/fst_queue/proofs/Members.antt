-- What puts and takes do to the members and to the marks.
use Rattle.std.proofs.Common.{◌≡◌, ◌⊎◌, inl, inr, ℕ, ◌<◌, ◌≤◌, Bool, true, false, List, [], ◌∷◌, ◌++◌, Some, length, set, get_or, sym, ap, ◌∙◌, subst}
use Rattle.std.specs.Bool.{Decides}
use Rattle.std.proofs.lemmas.Bool.{cases_lt, cases_eq}
use Rattle.std.proofs.lemmas.List.{get_or-set_same, get_or-set_other, get_or_past}
use Rattle.fst_machine.specs.BreadthFirst.{Has}
use Rattle.fst_machine.proofs.Elements.{Has-append_left, Has-append_right}
use Rattle.fst_queue.specs.Members.{Adds, Takes}
use Rattle.fst_queue.specs.Leaving.{Has-push}
use Rattle.fst_machine.specs.Marks.{Marks}

-- a state that is put after the others
pub pushed_adds : (old new : List ℕ) (state : ℕ) → new ≡ old ++ state ∷ [] → Adds old state new
pushed_adds old new state is q = ((λ h. Has-push old state q (subst (λ xs. Has xs q) is h)), λ h. subst (λ xs. Has xs q) (sym is) (there h))
  where
    there : Has old q ⊎ (q ≡ state) → Has (old ++ state ∷ []) q
    there (inl h) = Has-append_left old (state ∷ []) q h
    there (inr e) = Has-append_right old (state ∷ []) q (inl (sym e))

-- a member has a mark
pub marked_within : (marks : List Bool) (states : List ℕ) (q : ℕ) → Marks marks states → Has states q → q < length marks
marked_within marks states q are h = by_place (cases_lt q (length marks))
  where
    by_place : (q < length marks) ⊎ (length marks ≤ q) → q < length marks
    by_place (inl low) = low
    by_place (inr past) = absurd (let wrong : false ≡ true = sym (get_or_past marks q false past) ∙ (are q).1 h in cc)

-- a state without a mark is no member
pub unmarked : (marks : List Bool) (states : List ℕ) (q : ℕ) (b : Bool) → Marks marks states → b ≡ get_or marks q false → b ≡ false → Has states q → ⊥
unmarked marks states q b are is false_is h = let wrong : true ≡ false = sym ((are q).1 h) ∙ sym is ∙ false_is in cc

-- a new member gets its mark, in marks that have grown
pub Marks-put : (marks grown : List Bool) (old new : List ℕ) (state : ℕ) → Marks marks old → ((q : ℕ) → get_or grown q false ≡ get_or marks q false) → state < length grown → Adds old state new → Marks (set grown state true) new
Marks-put marks grown old new state are same room adds q = by_place (cases_eq q state)
  where
    by_place : (q ≡ state) ⊎ (q ≡ state → ⊥) → Decides (get_or (set grown state true) q false) (Has new q)
    by_place (inl here) = ((λ marked. (adds q).1 (inr here)), λ h. ap (λ (j : ℕ). get_or (set grown state true) j false) here ∙ get_or-set_same grown state true false room)
    by_place (inr other) =
        let kept : get_or (set grown state true) q false ≡ get_or marks q false = get_or-set_other grown state q true false other ∙ same q in
        ((λ marked. (adds q).1 (inl ((are q).0 (sym kept ∙ marked)))), λ h. kept ∙ (are q).1 (old_one ((adds q).0 h)))
      where
        old_one : Has old q ⊎ (q ≡ state) → Has old q
        old_one (inl h) = h
        old_one (inr e) = absurd (other e)

-- a member that leaves loses its mark
pub Marks-taken : (marks : List Bool) (old new : List ℕ) (state : ℕ) → Marks marks old → Takes old (Some state) new → Marks (set marks state false) new
Marks-taken marks old new state are takes q = by_place (cases_eq q state)
  where
    by_place : (q ≡ state) ⊎ (q ≡ state → ⊥) → Decides (get_or (set marks state false) q false) (Has new q)
    by_place (inl here) =
        let cleared : get_or (set marks state false) q false ≡ false = ap (λ (j : ℕ). get_or (set marks state false) j false) here ∙ get_or-set_same marks state false false (marked_within marks old state are takes.0) in
        ((λ marked. absurd (let wrong : false ≡ true = sym cleared ∙ marked in cc)), λ h. absurd (((takes.1 q).0 h).1 here))
    by_place (inr other) =
        let kept : get_or (set marks state false) q false ≡ get_or marks q false = get_or-set_other marks state q false false other in
        ((λ marked. (takes.1 q).1 ((are q).0 (sym kept ∙ marked), other)), λ h. kept ∙ (are q).1 ((takes.1 q).0 h).0)
