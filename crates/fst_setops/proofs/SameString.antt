-- What two acceptors relate, one after the other, is what both have.
use Rattle.std.proofs.Common.{◌≡◌, ◌↔◌, ℕ, List, [], ◌∷◌, sym, refl, ap₂, ◌∙◌, subst}
use Rattle.fst_semiring.specs.Cost.{Cost}
use Rattle.fst_semiring.specs.declared.arc_type.ArcType.{ArcType}
use Rattle.fst_machine.specs.Graph.{Graph}
use Rattle.fst_machine.specs.Letters.{before, input, output}
use Rattle.fst_machine.specs.Paths.{IsPath, Transition, letters}
use Rattle.fst_machine.specs.Relation.{Rel}
use Rattle.fst_compose.specs.Theorem.{Relates}
use Rattle.fst_setops.specs.Intersecting.{Accepts, Intersects}

-- a path of an acceptor writes what it reads
same_strings : {N : Type 0} (g : Graph N) → Accepts g → (path : List (Transition N)) (p q : N) → IsPath g p path q → input (letters path) ≡ output (letters path)
same_strings g accepts [] p q here = refl
same_strings g accepts (t ∷ path) p q leads = ap₂ before (accepts p t.place t.arc leads.0.1) (same_strings g accepts path t.arc.next q leads.1)

-- so it relates a string to itself alone
pub relates_itself : {N : Type 0} (kind : ArcType) (g : Graph N) → Accepts g → (x z : List ℕ) (w : Cost) → Rel kind g x z w → x ≡ z
relates_itself kind g accepts x z w r = let s = r.says in s.reads ∙ (same_strings g accepts s.path r.first s.last s.leads ∙ sym s.writes)

pub relates_both : {N M : Type 0} (kind : ArcType) (a : Graph N) (b : Graph M) → Accepts a → Accepts b → (x z : List ℕ) (w : Cost) → Relates kind a b x z w ↔ Intersects kind a b x z w
relates_both kind a b left right x z w = (there, back)
  where
    there : Relates kind a b x z w → Intersects kind a b x z w
    there r =
        let first = relates_itself kind a left x r.middle r.first_weight r.first in
        let second = relates_itself kind b right r.middle z r.second_weight r.second in
        record {
          same = first ∙ second;
          first_weight = r.first_weight;
          second_weight = r.second_weight;
          first = subst (λ (y : List ℕ). Rel kind a x y r.first_weight) (sym first) r.first;
          second = subst (λ (y : List ℕ). Rel kind b x y r.second_weight) (sym second ∙ sym first) (subst (λ (y : List ℕ). Rel kind b y z r.second_weight) (sym first) r.second);
          weight = r.weight;
        }

    back : Intersects kind a b x z w → Relates kind a b x z w
    back h = record {
      middle = x;
      first_weight = h.first_weight;
      second_weight = h.second_weight;
      first = h.first;
      second = subst (λ (y : List ℕ). Rel kind b x y h.second_weight) h.same h.second;
      weight = h.weight;
    }
