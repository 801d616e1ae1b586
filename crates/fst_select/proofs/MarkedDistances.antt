-- Distances over arcs to marked states.
use Rattle.std.proofs.Common.{◌≡◌, ℕ, List, [], ◌∷◌, ◌++◌, Some, sym, refl, ◌∙◌, subst}
use Rattle.std.proofs.lemmas.Option.{same_Some}
use Rattle.std.specs.Prelude.{◌↔◌}
use Rattle.fst_semiring.specs.Cost.{Cost}
use Rattle.fst_semiring.specs.declared.arc_type.ArcType.{ArcType}
use Rattle.fst_machine.specs.Graph.{Graph}
use Rattle.fst_machine.specs.Machine.{Arc}
use Rattle.fst_machine.specs.Paths.{IsPath, Transition}
use Rattle.fst_machine.specs.Cycles.{IsAccessible, IsCoaccessible}
use Rattle.fst_machine.specs.Distance.{AllArcs, AnyArc, IsDistance, IsLeast, Reaches}
use Rattle.fst_select.specs.Surveyed.{Comes}
use Rattle.fst_machine.proofs.Least.{least_same}
use Rattle.fst_machine.proofs.PathParts.{IsPath-append}

module _ (kind : ArcType) (g : Graph ℕ) (Open : ℕ → Type 0) (first : ℕ) (starts : g.start ≡ Some first) (live : IsCoaccessible g first) (marks : (q : ℕ) → IsAccessible g q → Open q ↔ IsCoaccessible g q) where
  abbrev Class : Arc Cost ℕ → Type 0
  Class a = Open a.next

  any : (path : List (Transition ℕ)) → AllArcs (AnyArc {N = ℕ}) path
  any [] = tt
  any (t ∷ path) = (tt, any path)

  next_access : (front : List (Transition ℕ)) (p : ℕ) (t : Transition ℕ) (q : ℕ) → IsPath g first front p → IsPath g p (t ∷ []) q → IsAccessible g t.arc.next
  next_access front p t q arrives goes = record { first = first; path = front ++ t ∷ []; starts = starts; leads = IsPath-append g front (t ∷ []) first p t.arc.next arrives (goes.0, refl) }

  -- from a state that reaches a final one, back along a path from the start: all targets are open
  open_all : (front path : List (Transition ℕ)) (p q : ℕ) → IsPath g first front p → IsPath g p path q → IsCoaccessible g q → AllArcs Class path
  open_all front [] p q arrives goes co = tt
  open_all front (t ∷ path) p q arrives goes co =
      let on : IsPath g first (front ++ t ∷ []) t.arc.next = IsPath-append g front (t ∷ []) first p t.arc.next arrives (goes.0, refl) in
      let reached : IsAccessible g t.arc.next = record { first = first; path = front ++ t ∷ []; starts = starts; leads = on } in
      let goes_on : IsCoaccessible g t.arc.next = record { last = co.last; path = path ++ co.path; leads = IsPath-append g path co.path t.arc.next q co.last goes.1 co.leads; final = co.final } in
      ((marks t.arc.next reached).1 goes_on, open_all (front ++ t ∷ []) path t.arc.next q on goes.1 co)

  -- and a path over such arcs ends at a state that reaches a final one
  pub ends_open : (front path : List (Transition ℕ)) (p q : ℕ) → IsPath g first front p → IsCoaccessible g p → IsPath g p path q → AllArcs Class path → IsCoaccessible g q
  ends_open front [] p q arrives co goes class = subst (IsCoaccessible g) goes co
  ends_open front (t ∷ path) p q arrives co goes class =
      let on : IsPath g first (front ++ t ∷ []) t.arc.next = IsPath-append g front (t ∷ []) first p t.arc.next arrives (goes.0, refl) in
      let reached : IsAccessible g t.arc.next = record { first = first; path = front ++ t ∷ []; starts = starts; leads = on } in
      ends_open (front ++ t ∷ []) path t.arc.next q on ((marks t.arc.next reached).0 class.0) goes.1 class.1

  pub marked_comes : (q : ℕ) (d : Cost) → IsDistance kind g Class first q d → IsLeast (Comes kind g q) d
  marked_comes q d least = least_same (Reaches kind g Class first q) (Comes kind g q) d there back least
    where
      there : (w : Cost) → Reaches kind g Class first q w → Comes kind g q w
      there w r = record {
        first = first;
        starts = starts;
        reaches = record { path = r.path; leads = r.leads; class = any r.path; weight = r.weight };
        goes_on = ends_open [] r.path first q refl live r.leads r.class;
      }

      back : (w : Cost) → Comes kind g q w → Reaches kind g Class first q w
      back w c =
          let same : c.first ≡ first = same_Some c.first first (sym c.starts ∙ starts) in
          let leads : IsPath g first c.reaches.path q = subst (λ (z : ℕ). IsPath g z c.reaches.path q) same c.reaches.leads in
          record { path = c.reaches.path; leads = leads; class = open_all [] c.reaches.path first q refl leads c.goes_on; weight = c.reaches.weight }
