-- What a graph relates whose successful paths are those of the first whose string the second does not have.
use Rattle.std.proofs.Common.{◌≡◌, ◌↔◌, ℕ, List, sym, ap, ◌∙◌, subst}
use Rattle.fst_semiring.specs.Cost.{Cost}
use Rattle.fst_semiring.specs.declared.arc_type.ArcType.{ArcType}
use Rattle.fst_machine.specs.Graph.{Graph}
use Rattle.fst_machine.specs.Letters.{input, output}
use Rattle.fst_machine.specs.Paths.{Transition, letters}
use Rattle.fst_machine.specs.Relation.{IsSuccessful, Rel}
use Rattle.fst_setops.specs.Subtracting.{HasString, Remains, Subtracts}

-- a successful path relates its strings
related : {N : Type 0} (kind : ArcType) (g : Graph N) (path : List (Transition N)) (x z : List ℕ) (w : Cost) → IsSuccessful kind g path w → x ≡ input (letters path) → z ≡ output (letters path) → Rel kind g x z w
related kind g path x z w s reads writes = record {
  first = s.first;
  starts = s.starts;
  says = record { path = path; last = s.last; leads = s.leads; final = s.final; reads = reads; writes = writes; weight = s.weight };
}

-- and what is related is so by a successful path
succeeds : {N : Type 0} (kind : ArcType) (g : Graph N) (x z : List ℕ) (w : Cost) (r : Rel kind g x z w) → IsSuccessful kind g r.says.path w
succeeds kind g x z w r = record { first = r.first; last = r.says.last; starts = r.starts; leads = r.says.leads; final = r.says.final; weight = r.says.weight }

module _ {N M P : Type 0} (kind : ArcType) (a : Graph N) (b : Graph M) (g : Graph P) (Read : List (Transition P) → List (Transition N) → Type 0) (is : Subtracts kind a b g Read) (x z : List ℕ) (w : Cost) where
  there : Rel kind g x z w → Remains kind a b x z w
  there r =
      let other = is.there r.says.path w (succeeds kind g x z w r) in
      let same : letters r.says.path ≡ letters other.0 = sym other.3 in
      let reads : x ≡ input (letters other.0) = r.says.reads ∙ ap input same in
      record {
        first = related kind a other.0 x z w other.1 reads (r.says.writes ∙ ap output same);
        none = λ h. other.4 (subst (HasString kind b) reads h);
      }

  back : Remains kind a b x z w → Rel kind g x z w
  back h =
      let r = h.first in
      let path = is.back r.says.path w (succeeds kind a x z w r) (λ has. h.none (subst (HasString kind b) (sym r.says.reads) has)) in
      let same : letters r.says.path ≡ letters path.0 = path.3 in
      related kind g path.0 x z w path.1 (r.says.reads ∙ ap input same) (r.says.writes ∙ ap output same)

  pub remaining : Rel kind g x z w ↔ Remains kind a b x z w
  remaining = (there, back)
