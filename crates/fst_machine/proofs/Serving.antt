-- Where arcs serve for arcs, all that the one graph relates the other relates.
use Rattle.std.proofs.Common.{◌≡◌, ℕ, List, [], ◌∷◌, sym, refl, ap, ap₂, ◌∙◌, subst}
use Rattle.fst_semiring.specs.Cost.{Cost, infinite}
use Rattle.fst_semiring.specs.declared.arc_type.ArcType.{ArcType}
use Rattle.fst_semiring.specs.Semiring.{times}
use Rattle.fst_machine.specs.Graph.{Graph}
use Rattle.fst_machine.specs.Letters.{input, output, product}
use Rattle.fst_machine.specs.Paths.{Transition, IsPath, letters}
use Rattle.fst_machine.specs.Relation.{RelFrom, Rel}
use Rattle.fst_machine.specs.Serving.{Serves}

module _ {N M : Type 0} (R : N → M → Type 0) (g : Graph N) (h : Graph M) (s : Serves R g h) where
  -- a path to a final name has one beside it, between tied names, with the same letters
  pub served_path : (p q : N) (m : M) (path : List (Transition N)) → (g.final q ≡ infinite → ⊥) → R p m → IsPath g p path q → (other : List (Transition M)) × (end : M) × IsPath h m other end × (letters other ≡ letters path) × R q end
  served_path p q m [] final tied here = ([], m, refl, refl, subst (λ z. R z m) here tied)
  served_path p q m (t ∷ path) final tied leads =
      let b = s.arcs p m t.place t.arc tied leads.0.1 (record { last = q; path = path; leads = leads.1; final = final }) in
      let rest = served_path t.arc.next q b.1.next path final b.4 leads.1 in
      let u : Transition M = record { state = m; place = b.0; arc = b.1 } in
      (u ∷ rest.0, rest.1, ((refl, b.2), rest.2), ap₂ (◌∷◌) b.3 rest.3, rest.4)

  -- a tied name says all that its name says
  pub served-RelFrom : (kind : ArcType) (p : N) (m : M) (x y : List ℕ) (w : Cost) → R p m → RelFrom kind g p x y w → RelFrom kind h m x y w
  served-RelFrom kind p m x y w tied r =
      let other = served_path p r.last m r.path r.final tied r.leads in
      let final : h.final other.1 ≡ g.final r.last = s.final r.last other.1 other.4 in
      let same : letters r.path ≡ letters other.0 = sym other.3 in
      record {
        path = other.0;
        last = other.1;
        leads = other.2;
        final = subst (λ (z : Cost). z ≡ infinite → ⊥) (sym final) r.final;
        reads = r.reads ∙ ap input same;
        writes = r.writes ∙ ap output same;
        weight = r.weight ∙ ap₂ (times kind) (ap (product kind) same) (sym final);
      }

  -- and the whole graph likewise
  pub served-Rel : (kind : ArcType) (x y : List ℕ) (w : Cost) → Rel kind g x y w → Rel kind h x y w
  served-Rel kind x y w r =
      let start = s.start r.first r.starts (record { last = r.says.last; path = r.says.path; leads = r.says.leads; final = r.says.final }) in
      record { first = start.0; starts = start.1; says = served-RelFrom kind r.first start.0 x y w start.2 r.says }
