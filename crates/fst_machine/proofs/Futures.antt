-- What a name says, one arc at a time.
use Rattle.std.proofs.Common.{◌≡◌, ◌⊎◌, ◌↔◌, inl, inr, ℕ, List, [], ◌∷◌, Some, slice_get, sym, refl, ap, ◌∙◌, subst, length, suc}
use Rattle.fst_semiring.specs.Cost.{Cost, infinite}
use Rattle.fst_semiring.specs.declared.arc_type.ArcType.{ArcType}
use Rattle.fst_semiring.specs.Semiring.{one_of, times}
use Rattle.fst_semiring.proofs.Laws.{times_assoc, one_times}
use Rattle.fst_machine.specs.Graph.{Graph}
use Rattle.fst_machine.specs.Letters.{before, input, output, product}
use Rattle.fst_machine.specs.Paths.{Transition, IsPath, letters}
use Rattle.fst_machine.specs.Relation.{RelFrom}
use Rattle.fst_machine.specs.Futures.{SaysEnd, SaysArc}
use Rattle.fst_machine.specs.Continuing.{epsilon_arc}

module _ {N : Type 0} (kind : ArcType) (g : Graph N) where
  -- a final name says the empty strings with its final weight
  pub RelFrom-end : (p : N) (x y : List ℕ) (w : Cost) → SaysEnd kind g p x y w → RelFrom kind g p x y w
  RelFrom-end p x y w h = record { path = []; last = p; leads = refl; final = h.final; reads = h.reads; writes = h.writes; weight = h.weight ∙ sym (one_times kind (g.final p)) }

  -- a name says the labels of an arc before what the arc's end says, with the product of the weights
  pub RelFrom-arc : (p : N) (x y : List ℕ) (w : Cost) → SaysArc kind g p x y w → RelFrom kind g p x y w
  RelFrom-arc p x y w h =
      let t : Transition N = record { state = p; place = h.place; arc = h.arc } in
      record {
        path = t ∷ h.says.path;
        last = h.says.last;
        leads = ((refl, h.has), h.says.leads);
        final = h.says.final;
        reads = h.reads ∙ ap (before h.arc.ilabel) h.says.reads;
        writes = h.writes ∙ ap (before h.arc.olabel) h.says.writes;
        weight = h.weight ∙ (ap (times kind h.arc.weight) h.says.weight ∙ sym (times_assoc kind h.arc.weight _ _));
      }

  -- these paths have no arc, and one arc more
  pub RelFrom-end-length : (p : N) (x y : List ℕ) (w : Cost) (h : SaysEnd kind g p x y w) → length (RelFrom-end p x y w h).path ≡ 0
  unfolding RelFrom-end
  RelFrom-end-length p x y w h = refl

  pub RelFrom-arc-length : (p : N) (x y : List ℕ) (w : Cost) (h : SaysArc kind g p x y w) → length (RelFrom-arc p x y w h).path ≡ suc (length h.says.path)
  unfolding RelFrom-arc
  RelFrom-arc-length p x y w h = refl

  -- and it says nothing else
  pub RelFrom-cases : (p : N) (x y : List ℕ) (w : Cost) → RelFrom kind g p x y w → SaysEnd kind g p x y w ⊎ SaysArc kind g p x y w
  RelFrom-cases p x y w h = by_path h.path h.leads h.reads h.writes h.weight
    where
      by_path : (path : List (Transition N)) → IsPath g p path h.last → x ≡ input (letters path) → y ≡ output (letters path) → w ≡ times kind (product kind (letters path)) (g.final h.last) → SaysEnd kind g p x y w ⊎ SaysArc kind g p x y w
      by_path [] here reads writes weight = inl (record {
        final = subst (λ z. g.final z ≡ infinite → ⊥) (sym here) h.final;
        reads = reads;
        writes = writes;
        weight = weight ∙ (one_times kind (g.final h.last) ∙ ap g.final (sym here));
      })
      by_path (t ∷ path) leads reads writes weight = inr (record {
        place = t.place;
        arc = t.arc;
        has = leads.0.1;
        input_rest = input (letters path);
        output_rest = output (letters path);
        weight_rest = times kind (product kind (letters path)) (g.final h.last);
        says = record { path = path; last = h.last; leads = leads.1; final = h.final; reads = refl; writes = refl; weight = refl };
        reads = reads;
        writes = writes;
        weight = weight ∙ times_assoc kind t.arc.weight _ _;
      })

  -- an epsilon arc with weight One says what its end says
  pub RelFrom-epsilon : (p q : N) (place : ℕ) (x y : List ℕ) (w : Cost) → slice_get (g.arcs p) place ≡ Some (epsilon_arc (one_of kind) q) → RelFrom kind g q x y w → RelFrom kind g p x y w
  RelFrom-epsilon p q place x y w has h = RelFrom-arc p x y w (record {
    place = place;
    arc = epsilon_arc (one_of kind) q;
    has = has;
    input_rest = x;
    output_rest = y;
    weight_rest = w;
    says = h;
    reads = refl;
    writes = refl;
    weight = sym (one_times kind w);
  })

  -- so it says just this
  pub RelFrom_is : (p : N) (x y : List ℕ) (w : Cost) → RelFrom kind g p x y w ↔ (SaysEnd kind g p x y w ⊎ SaysArc kind g p x y w)
  RelFrom_is p x y w = (RelFrom-cases p x y w, back)
    where
      back : SaysEnd kind g p x y w ⊎ SaysArc kind g p x y w → RelFrom kind g p x y w
      back (inl h) = RelFrom-end p x y w h
      back (inr h) = RelFrom-arc p x y w h
