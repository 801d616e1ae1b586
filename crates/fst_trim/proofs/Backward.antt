-- A walk back from the final states.
use Rattle.std.proofs.Common.{◌≡◌, ◌⊎◌, ◌↔◌, inl, inr, ℕ, ◌+◌, ◌<◌, ◌≤◌, Bool, true, false, ◌&&◌, List, [], ◌∷◌, ◌++◌, Some, length, get_or, slice_get, map, refl, sym, ap, ◌∙◌, subst, arith}
use Rattle.std.specs.Bool.{Decides}
use Rattle.std.proofs.lemmas.Bool.{cases_lt, cases_eq}
use Rattle.std.specs.Option.{option_map}
use Rattle.std.proofs.lemmas.List.{append-nil, get_or_past, length-append}
use Rattle.std.proofs.lemmas.Option.{slice_get_within}
use Rattle.fst_semiring.specs.Cost.{Cost, infinite}
use Rattle.fst_machine.specs.Machine.{Arc, Machine, valued, valued_arc}
use Rattle.fst_machine.specs.Graph.{Graph, graph_of}
use Rattle.fst_machine.specs.Paths.{Transition, IsPath}
use Rattle.fst_machine.specs.Cycles.{IsAccessible, IsCoaccessible, IsUseful}
use Rattle.fst_machine.specs.BreadthFirst.{Has, Grows, IsWalked}
use Rattle.fst_machine.specs.Marks.{Marks}
use Rattle.fst_machine.proofs.Elements.{at_Has, Has_at, Apart_below}
use Rattle.fst_machine.proofs.Arcs.{at_append_front, at_mapped, mapped_at}
use Rattle.fst_machine.proofs.Walks.{Grows-front, Grows-Apart, Grows-has, Grows-kept, Grows-only, walked_reached, walked_from_start}
use Rattle.fst_machine.proofs.Walking.{found_within, graph_arcs}
use Rattle.fst_trim.specs.Back.{IsClosedBack, IsWalkingBack, LeadsTo}
use Rattle.fst_trim.specs.Finals.{FoundFinals}

-- it begins with the final states
pub back_begins : (g : Graph ℕ) (n : ℕ) (names : List ℕ) → FoundFinals g n names → ((p : ℕ) → (g.final p ≡ infinite → ⊥) → p < n) → IsWalkingBack g names 0
back_begins g n names f low = record {
  apart = f.apart;
  reach = λ p has. record { last = p; path = []; leads = refl; final = f.only p has };
  finals = λ p final. f.all p (low p final) final;
  closed = λ i q before. absurd (omega arith);
}

-- it follows the arcs to one more
pub back_goes_on : (g : Graph ℕ) (names new states : List ℕ) (taken q : ℕ) → IsWalkingBack g names taken → slice_get names taken ≡ Some q → ((p : ℕ) → Has states p ↔ ((k : ℕ) × (a : Arc Cost ℕ) × (slice_get (g.arcs p) k ≡ Some a) × (a.next ≡ q))) → Grows names states new → IsWalkingBack g new (taken + 1)
back_goes_on g names new states taken q w there lead grows = record {
  apart = Grows-Apart states names new w.apart grows;
  reach = λ p has. reach_of p (Grows-only states names new p grows has);
  finals = λ p final. Grows-kept states names new p grows (w.finals p final);
  closed = λ i r before at p k a has next. closed_at i r at p k a has next (cases_lt i taken) before;
}
  where
    front : (more : List ℕ) × (new ≡ names ++ more)
    front = Grows-front states names new grows

    goal_of : (p k : ℕ) (a : Arc Cost ℕ) → slice_get (g.arcs p) k ≡ Some a → IsCoaccessible g a.next → IsCoaccessible g p
    goal_of p k a has c = record { last = c.last; path = record { state = p; place = k; arc = a } ∷ c.path; leads = ((refl, has), c.leads); final = c.final }

    reach_of : (p : ℕ) → Has names p ⊎ Has states p → IsCoaccessible g p
    reach_of p (inl old) = w.reach p old
    reach_of p (inr more) =
        let a = (lead p).0 more in
        goal_of p a.0 a.1 a.2 (subst (λ (r : ℕ). IsCoaccessible g r) (sym a.3) (w.reach q (at_Has names taken q there)))

    low : taken < length names
    low = slice_get_within names taken q there

    old_at : (i r : ℕ) → i < length names → slice_get new i ≡ Some r → slice_get names i ≡ Some r
    old_at i r within at = at_append_front names front.0 i r within (ap (λ (ns : List ℕ). slice_get ns i) (sym front.1) ∙ at)

    closed_at : (i r : ℕ) → slice_get new i ≡ Some r → (p k : ℕ) (a : Arc Cost ℕ) → slice_get (g.arcs p) k ≡ Some a → a.next ≡ r → (i < taken) ⊎ (taken ≤ i) → i < taken + 1 → Has new p
    closed_at i r at p k a has next (inl sooner) before = Grows-kept states names new p grows (w.closed i r sooner (old_at i r (omega (arith, low)) at) p k a has next)
    closed_at i r at p k a has next (inr now) before =
        let here : i ≡ taken = omega arith in
        let same : Some r ≡ Some q = sym (old_at i r (omega (arith, low)) at) ∙ (ap (slice_get names) here ∙ there) in
        let equal : r ≡ q = cc in
        Grows-has states names new p grows ((lead p).1 (k, a, has, next ∙ equal))

-- at the end all states from which a path leads to a final one are found
pub back_ends : (g : Graph ℕ) (names : List ℕ) (taken : ℕ) → IsWalkingBack g names taken → length names ≤ taken → (p : ℕ) → IsCoaccessible g p → Has names p
back_ends g names taken w done p c = along c.path p c.leads
  where
    along : (path : List (Transition ℕ)) (p : ℕ) → IsPath g p path c.last → Has names p
    along [] p leads = subst (λ (r : ℕ). Has names r) (sym leads) (w.finals c.last c.final)
    along (t ∷ path) p leads =
        let at = Has_at names t.arc.next (along path t.arc.next leads.1) in
        w.closed at.0 t.arc.next (omega (arith, at.2)) at.1 p t.place t.arc leads.0.1 refl

-- what the marks then say
pub back_marks : (g : Graph ℕ) (names : List ℕ) (taken : ℕ) (seen : List Bool) → IsWalkingBack g names taken → length names ≤ taken → Marks seen names → (p : ℕ) → Decides (get_or seen p false) (IsCoaccessible g p)
back_marks g names taken seen w done marks p = ((λ is. w.reach p ((marks p).0 is)), (λ c. (marks p).1 (back_ends g names taken w done p c)))

-- it finds no more than there are
pub back_few : (g : Graph ℕ) (names : List ℕ) (taken : ℕ) (seen : List Bool) → IsWalkingBack g names taken → Marks seen names → length names ≤ length seen
back_few g names taken seen w marks = Apart_below (length seen) names w.apart (λ k h. found_within seen names k marks h)

-- what the marks of a walk from the start say
pub walk_marks : (g : Graph ℕ) (start : ℕ) (names : List ℕ) (seen : List Bool) → g.start ≡ Some start → IsWalked g start names → Marks seen names → (p : ℕ) → Decides (get_or seen p false) (IsAccessible g p)
walk_marks g start names seen starts w marks p = (there, back)
  where
    there : get_or seen p false ≡ true → IsAccessible g p
    there is = let path = walked_reached g start names w p ((marks p).0 is) in record { first = start; path = path.0; starts = starts; leads = path.1 }

    back : IsAccessible g p → get_or seen p false ≡ true
    back a =
        let both : Some a.first ≡ Some start = sym a.starts ∙ starts in
        let same : a.first ≡ start = cc in
        (marks p).1 (walked_from_start g start names w a.path p (subst (λ (r : ℕ). IsPath g r a.path p) same a.leads))

-- both marks together
pub both_marks : (g : Graph ℕ) (p : ℕ) (one two both : Bool) → Decides one (IsAccessible g p) → Decides two (IsCoaccessible g p) → both ≡ (one && two) → Decides both (IsUseful g p)
both_marks g p true two both a c e = ((λ is. (a.0 refl, c.0 (sym e ∙ is))), (λ u. e ∙ c.1 u.1))
both_marks g p false two both a c e = ((λ is. absurd (let wrong : false ≡ true = sym e ∙ is in cc)), (λ u. absurd (let wrong : false ≡ true = a.1 u.0 in cc)))

-- where the start reaches all states, those from which a path leads to a final one are the useful ones
pub accessible_marks : (g : Graph ℕ) (size : ℕ) (marks : List Bool) → length marks ≡ size → ((p : ℕ) → p < size → IsAccessible g p) → ((p : ℕ) → Decides (get_or marks p false) (IsCoaccessible g p)) → (p : ℕ) → Decides (get_or marks p false) (IsUseful g p)
accessible_marks g size marks same all are p = ((λ is. (all p (marked_below is (cases_lt p (length marks))), (are p).0 is)), (λ u. (are p).1 u.1))
  where
    marked_below : get_or marks p false ≡ true → (p < length marks) ⊎ (length marks ≤ p) → p < size
    marked_below is (inl low) = omega arith
    marked_below is (inr past) = absurd (let wrong : false ≡ true = sym (get_or_past marks p false past) ∙ is in cc)

-- one state more that is not final
pub finals_skip : (g : Graph ℕ) (k : ℕ) (names : List ℕ) → FoundFinals g k names → ((g.final k ≡ infinite → ⊥) → ⊥) → FoundFinals g (k + 1) names
finals_skip g k names f none = record { apart = f.apart; all = λ p low final. at p low final (cases_eq p k); only = f.only }
  where
    at : (p : ℕ) → p < k + 1 → (g.final p ≡ infinite → ⊥) → (p ≡ k) ⊎ (p ≡ k → ⊥) → Has names p
    at p low final (inl same) = absurd (none (subst (λ (r : ℕ). g.final r ≡ infinite → ⊥) same final))
    at p low final (inr other) = f.all p (omega arith) final

-- and one that is
pub finals_add : (g : Graph ℕ) (k : ℕ) (names new : List ℕ) → FoundFinals g k names → (g.final k ≡ infinite → ⊥) → Grows names (k ∷ []) new → FoundFinals g (k + 1) new
finals_add g k names new f here grows = record { apart = Grows-Apart (k ∷ []) names new f.apart grows; all = λ p low final. at p low final (cases_eq p k); only = λ p has. from p (Grows-only (k ∷ []) names new p grows has) }
  where
    at : (p : ℕ) → p < k + 1 → (g.final p ≡ infinite → ⊥) → (p ≡ k) ⊎ (p ≡ k → ⊥) → Has new p
    at p low final (inl same) = Grows-has (k ∷ []) names new p grows (inl (sym same))
    at p low final (inr other) = Grows-kept (k ∷ []) names new p grows (f.all p (omega arith) final)

    from : (p : ℕ) → Has names p ⊎ Has (k ∷ []) p → g.final p ≡ infinite → ⊥
    from p (inl old) = f.only p old
    from p (inr (inl same)) = subst (λ (r : ℕ). g.final r ≡ infinite → ⊥) same here
    from p (inr (inr none)) = absurd none

-- a sweep adds a state with an arc to one that was found
pub sweep_adds : (g : Graph ℕ) (names new : List ℕ) (p k : ℕ) (a : Arc Cost ℕ) → IsWalkingBack g names 0 → slice_get (g.arcs p) k ≡ Some a → Has names a.next → Grows names (p ∷ []) new → IsWalkingBack g new 0
sweep_adds g names new p k a w there has grows = record {
  apart = Grows-Apart (p ∷ []) names new w.apart grows;
  reach = λ q is. reach_of q (Grows-only (p ∷ []) names new q grows is);
  finals = λ q final. Grows-kept (p ∷ []) names new q grows (w.finals q final);
  closed = λ i q before. absurd (omega arith);
}
  where
    here : IsCoaccessible g p
    here = let c = w.reach a.next has in record { last = c.last; path = record { state = p; place = k; arc = a } ∷ c.path; leads = ((refl, there), c.leads); final = c.final }

    reach_of : (q : ℕ) → Has names q ⊎ Has (p ∷ []) q → IsCoaccessible g q
    reach_of q (inl old) = w.reach q old
    reach_of q (inr (inl same)) = subst (IsCoaccessible g) same here
    reach_of q (inr (inr none)) = absurd none

-- where nothing was added, the list is the same
pub nothing_added : (names new : List ℕ) (p : ℕ) → Grows names (p ∷ []) new → length new ≤ length names → new ≡ names
nothing_added names new p grows few = by_more (Grows-front (p ∷ []) names new grows)
  where
    by_more : ((more : List ℕ) × (new ≡ names ++ more)) → new ≡ names
    by_more ([], same) = same ∙ append-nil names
    by_more (q ∷ more, same) = let size : length new ≡ length names + length (q ∷ more) = ap length same ∙ length-append names (q ∷ more) in absurd (omega arith)

pub grows_length : (names new : List ℕ) (p : ℕ) → Grows names (p ∷ []) new → length names ≤ length new
grows_length names new p grows =
    let front = Grows-front (p ∷ []) names new grows in
    let size : length new ≡ length names + length front.0 = ap length front.1 ∙ length-append names front.0 in
    omega arith

-- what was found, where it is closed, marks just the states from which a path leads to a final one
pub closed_marks : (g : Graph ℕ) (names : List ℕ) (seen : List Bool) → IsWalkingBack g names 0 → IsClosedBack g names → Marks seen names → (p : ℕ) → Decides (get_or seen p false) (IsCoaccessible g p)
closed_marks g names seen w closed marks p =
    back_marks g names (length names) seen
    (record { apart = w.apart; reach = w.reach; finals = w.finals; closed = λ i q before at p k a has next. closed p k a has (subst (Has names) (sym next) (at_Has names i q at)) })
    (omega arith) marks p

module _ {V : Type 0} (value : V → Cost) (m : Machine V) (names : List ℕ) (seen : List Bool) (marks : Marks seen names) (p : ℕ) (arcs : List (Arc V ℕ)) (own : option_map (λ s. s.arcs) (slice_get m.states p) ≡ Some arcs) where
  same_arcs : (graph_of (valued value m)).arcs p ≡ map (valued_arc value) arcs
  same_arcs = graph_arcs value m p arcs own

  -- an arc to a marked state, as the graph has it
  pub leads_back : LeadsTo seen arcs → (k : ℕ) × (a : Arc Cost ℕ) × (slice_get ((graph_of (valued value m)).arcs p) k ≡ Some a) × Has names a.next
  leads_back l = (l.place, valued_arc value l.arc, ap (λ (own_arcs : List (Arc Cost ℕ)). slice_get own_arcs l.place) same_arcs ∙ at_mapped (valued_arc value) arcs l.place l.arc l.there, (marks l.arc.next).0 l.marked)

  -- where there is none, none is in the graph
  pub leads_nowhere : (LeadsTo seen arcs → ⊥) → (k : ℕ) (a : Arc Cost ℕ) → slice_get ((graph_of (valued value m)).arcs p) k ≡ Some a → Has names a.next → ⊥
  leads_nowhere none k a there has =
      let from = mapped_at (valued_arc value) arcs k a (ap (λ (own_arcs : List (Arc Cost ℕ)). slice_get own_arcs k) (sym same_arcs) ∙ there) in
      let next : a.next ≡ from.0.next = ap (λ (b : Arc Cost ℕ). b.next) (sym from.2) in
      none (record { place = k; arc = from.0; there = from.1; marked = (marks from.0.next).1 (subst (Has names) next has) })

-- the states from a number on of which an arc leads to one that was found were found
abbrev pub IsClosedAbove : Graph ℕ → ℕ → List ℕ → Type 0
IsClosedAbove g left names = (p k : ℕ) (a : Arc Cost ℕ) → left ≤ p → slice_get (g.arcs p) k ≡ Some a → Has names a.next → Has names p

-- one state more, which was added
pub sweep_added : (g : Graph ℕ) (names new : List ℕ) (left at size : ℕ) → left ≡ at + 1 → (length names ≤ size → IsClosedAbove g left names) → size ≤ length names → Grows names (at ∷ []) new → length new ≤ size → IsClosedAbove g at new
sweep_added g names new left at size next closed grown grows few p k a low there has = by_place (cases_eq p at)
  where
    same : new ≡ names
    same = nothing_added names new at grows (omega arith)

    by_place : (p ≡ at) ⊎ (p ≡ at → ⊥) → Has new p
    by_place (inl here) = Grows-has (at ∷ []) names new p grows (inl (sym here))
    by_place (inr other) =
        let size_same = ap length same in
        subst (λ (ns : List ℕ). Has ns p) (sym same) (closed (omega arith) p k a (omega arith) there (subst (λ (ns : List ℕ). Has ns a.next) same has))

-- one state more, from which no arc leads to one that was found
pub sweep_passed : (g : Graph ℕ) (names : List ℕ) (left at : ℕ) → left ≡ at + 1 → IsClosedAbove g left names → ((k : ℕ) (a : Arc Cost ℕ) → slice_get (g.arcs at) k ≡ Some a → Has names a.next → ⊥) → IsClosedAbove g at names
sweep_passed g names left at next closed none p k a low there has = by_place (cases_eq p at)
  where
    by_place : (p ≡ at) ⊎ (p ≡ at → ⊥) → Has names p
    by_place (inl here) = absurd (none k a (subst (λ (q : ℕ). slice_get (g.arcs q) k ≡ Some a) here there) has)
    by_place (inr other) = closed p k a (omega arith) there has
