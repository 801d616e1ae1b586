-- The law of a difference passes on to each graph whose successful paths are tied to those of another, one to one.
use Rattle.std.proofs.Common.{◌≡◌, ℕ, List, sym, ◌∙◌, subst}
use Rattle.fst_semiring.specs.Cost.{Cost}
use Rattle.fst_semiring.specs.declared.arc_type.ArcType.{ArcType}
use Rattle.fst_machine.specs.Graph.{Graph, graph_of}
use Rattle.fst_machine.specs.Machine.{Machine}
use Rattle.fst_machine.specs.Paths.{Transition}
use Rattle.fst_trim.specs.KeptPaths.{IsRenumbered, KeepsPaths}
use Rattle.fst_trim.specs.OneToOne.{IsOneToOne}
use Rattle.fst_setops.specs.Difference.{Rest}
use Rattle.fst_setops.specs.Subtracting.{NumberedParts, ReadsBy, Subtracts}

module _ {N M P Q : Type 0} (kind : ArcType) (a : Graph N) (b : Graph M) (g : Graph P) (h : Graph Q) (T : List (Transition P) → List (Transition Q) → Type 0) (Read : List (Transition P) → List (Transition N) → Type 0) (is : Subtracts kind a b g Read) (keeps : IsOneToOne kind g h T) where
  pub subtracts_through : Subtracts kind a b h (ReadsBy kind g T Read)
  subtracts_through = record {
    there = λ path w s.
        let old = keeps.back path w s in
        let o = is.there old.0 w old.1 in
        (o.0, o.1, record { between = old.0; weight = w; succeeds = old.1; tied = old.2; reads = o.2 }, o.3 ∙ sym old.3, o.4);
    back = λ other w s none.
        let p = is.back other w s none in
        let n = keeps.there p.0 w p.1 in
        (n.0, n.1, record { between = p.0; weight = w; succeeds = p.1; tied = n.2; reads = p.2 }, p.3 ∙ sym n.3);
    once = λ path one other r q v w s t.
        let same : q.between ≡ r.between = keeps.only q.between r.between path q.weight r.weight q.succeeds r.succeeds q.tied r.tied in
        is.once r.between one other r.reads (subst (λ ts. Read ts other) same q.reads) v w s t;
    only = λ one other path r q v w s t.
        let same : q.between ≡ r.between = is.only q.between r.between path q.reads r.reads q.weight r.weight q.succeeds r.succeeds in
        keeps.once r.between one other v w s t r.tied (subst (λ ts. T ts other) same q.tied);
  }

-- so it does to the difference of which just the useful states are kept
pub connected_subtracts : {N M : Type 0} (kind : ArcType) (a : Graph N) (b : Graph M) (names : List (Rest N M)) (whole c : Machine Cost) (kept : List ℕ) → Subtracts kind a b (graph_of whole) (NumberedParts names) → KeepsPaths kind whole c kept
    → Subtracts kind a b (graph_of c) (ReadsBy kind (graph_of whole) (IsRenumbered whole kept) (NumberedParts names))
connected_subtracts kind a b names whole c kept is keeps = subtracts_through kind a b (graph_of whole) (graph_of c) (IsRenumbered whole kept) (NumberedParts names) is keeps
