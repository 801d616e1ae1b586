-- The distances from the start of a machine, by its links.
use Rattle.std.proofs.Common.{◌≡◌, ℕ, ◌<◌, Bool, true, List, [], ◌∷◌, Option, None, Some, Ok, Err, Result, length, get_or, slice_get, sym, refl, ap, ◌∙◌, subst, arith}
use Rattle.std.specs.List.{All}
use Rattle.std.specs.Prelude.{IfErr, IfOk}
use Rattle.std.proofs.lemmas.List.{length-map}
use Rattle.std.proofs.lemmas.Option.{slice_get-get_or}
use Rattle.std.specs.declared.cmp.Ordering.TheVariants.{Less, Equal}
use Rattle.fst_semiring.specs.Cost.{Cost, infinite}
use Rattle.fst_semiring.specs.declared.arc_type.ArcType.{ArcType}
use Rattle.fst_semiring.specs.Semiring.{one_of, IsCost}
use Rattle.fst_semiring.proofs.Order.{cost_cmp_same}
use Rattle.fst_machine.specs.BreadthFirst.{Has}
use Rattle.fst_machine.specs.Machine.{Arc, IsMachine, Machine, State, valued}
use Rattle.fst_machine.specs.Graph.{Graph, graph_of}
use Rattle.fst_machine.specs.Paths.{Transition, IsPath}
use Rattle.fst_machine.specs.Cycles.{IsAccessible, IsImprovingCycle}
use Rattle.fst_machine.specs.Distance.{AllArcs, AnyArc, IsLeast, Reaches}
use Rattle.fst_machine.proofs.Least.{least_same}
use Rattle.fst_machine.specs.declared.path.Step.{Step}
use Rattle.fst_trim.specs.Links.{Link, all_links, links_from}
use Rattle.fst_search.specs.declared.direction.Direction.TheVariants.{FromStart}
use Rattle.fst_search.specs.ArcHops.{Along}
use Rattle.fst_search.specs.Beginning.{AreLeast, BeginsAt, Measures}
use Rattle.fst_search.specs.Cycles.{IsFound}
use Rattle.fst_search.specs.Distances.{IsListed, IsMeasured, IsOpenDistance, IsOpenMeasured, IsOpenReached, IsStartDistance, LeadsOpen}
use Rattle.fst_search.specs.Hops.{Hop, Arrives, IsHop, IsNet, IsOpen}
use Rattle.fst_search.proofs.Links.{link_only}
use Rattle.fst_search.proofs.MachineHops.{all_arcs, along_all, along_net, along_only, arc_good}
use Rattle.fst_search.proofs.Measured.{any_arcs, arrives_reaches, class_distance, fair_from_start, found_from_start, nothing_arrives}

-- a state on an improving cycle is one of the machine
pub improving_low : {V : Type 0} (kind : ArcType) (value : V → Cost) (m : Machine V) → IsMachine value m → (p : ℕ) (cycle : List (Transition ℕ)) → IsImprovingCycle (graph_of (valued value m)) kind p cycle → p < length m.states
improving_low kind value m good p [] improves = absurd (let wrong : Less ≡ Equal = sym improves.better ∙ cost_cmp_same (one_of kind) in cc)
improving_low kind value m good p (t ∷ cycle) improves = (arc_good value m good p t.place t.arc improves.leads.0.1).0

-- a place of a list that is within it has a value
pub value_at : (values : List Cost) (n q : ℕ) → length values ≡ n → q < n → (d : Cost) × (slice_get values q ≡ Some d)
value_at values n q size low = (get_or values q infinite, slice_get-get_or values q infinite (omega arith))

module _ {V : Type 0} (kind : ArcType) (value : V → Cost) (m : Machine V) (good : IsMachine value m) (marks : List Bool) (source : ℕ → Cost) where
  -- a hop is an arc to a state that counts
  goes_along : (h : Hop) → IsHop value marks (all_links m.states) h → Along (graph_of (valued value m)) (LeadsOpen marks) h
  goes_along h hop =
      let r = along_only value m marks (λ a. true) AnyArc (λ a e. tt) h hop in
      record { arc = r.0.arc; there = r.0.there; class = subst (IsOpen marks) (sym r.0.next) r.1; next = r.0.next; weight = r.0.weight }

  along_goes : (h : Hop) → Along (graph_of (valued value m)) (LeadsOpen marks) h → IsHop value marks (all_links m.states) h
  along_goes h along = along_all value m marks (λ a. true) AnyArc (λ a c. refl) h (record { arc = along.arc; there = along.there; class = tt; next = along.next; weight = along.weight }) (subst (IsOpen marks) along.next along.class)

  start_distance : (start : Option ℕ) → BeginsAt kind start source → (q : ℕ) (d : Cost) → IsLeast (Arrives kind (IsHop value marks (all_links m.states)) source q) d → IsOpenDistance marks kind (graph_of (valued value m)) start q d
  start_distance None none q d least = nothing_arrives kind (graph_of (valued value m)) (IsHop value marks (all_links m.states)) source none q d least
  start_distance (Some start) only q d least = class_distance kind (graph_of (valued value m)) (IsHop value marks (all_links m.states)) (LeadsOpen marks) goes_along source start only along_goes q d least

  start_counts : (start : Option ℕ) → m.start ≡ start → BeginsAt kind start source → (q : ℕ) (w : Cost) → Arrives kind (IsHop value marks (all_links m.states)) source q w → IsOpenReached marks (graph_of (valued value m)) q
  start_counts None is none q w a = absurd (a.begins (none a.first))
  start_counts (Some start) is only q w a =
      let r = arrives_reaches kind (graph_of (valued value m)) (IsHop value marks (all_links m.states)) (LeadsOpen marks) goes_along source start only q w a in
      record { first = start; path = r.path; starts = is; leads = r.leads; class = r.class }

  start_fair : (start : Option ℕ) → m.start ≡ start → BeginsAt kind start source → (p : ℕ) (d : Cost) → IsLeast (Arrives kind (IsHop value marks (all_links m.states)) source p) d → IsCost kind d → (cycle : List (Transition ℕ)) → IsOpenReached marks (graph_of (valued value m)) p
      → AllArcs (LeadsOpen marks) cycle → IsImprovingCycle (graph_of (valued value m)) kind p cycle → ⊥
  start_fair None is none p d least cost cycle acc round improves = let wrong : None ≡ Some acc.first = sym is ∙ acc.starts in cc
  start_fair (Some start) is only p d least cost cycle acc round improves =
      let same : acc.first ≡ start = (let e : Some acc.first ≡ Some start = sym acc.starts ∙ is in cc) in
      fair_from_start kind (graph_of (valued value m)) (IsHop value marks (all_links m.states)) (LeadsOpen marks) goes_along source start only along_goes (length m.states) (along_net value m marks good (λ a. true)) p d least cost cycle acc.path
      (subst (λ (z : ℕ). IsPath (graph_of (valued value m)) z acc.path p) same acc.leads) acc.class round improves

  pub start_measured : (bound : ℕ) (values : List Cost) → BeginsAt kind m.start source → AreLeast kind (IsHop value marks (all_links m.states)) source (length m.states) bound values
      → IsOpenMeasured marks kind (graph_of (valued value m)) (length m.states) bound values
  start_measured bound values begins are = record {
    size = are.size;
    distances = λ q d there. start_distance m.start begins q d (are.least q d there);
    numbers = are.numbers;
    kinds = are.kinds;
    none = λ p cycle acc round improves.
        let v = value_at values (length m.states) p are.size (improving_low kind value m good p cycle improves) in
        start_fair m.start refl begins p v.0 (are.least p v.0 v.1) (are.kinds p v.0 v.1) cycle acc round improves;
  }

  pub start_listed : (steps : List Step) → BeginsAt kind m.start source → IsFound kind (IsHop value marks (all_links m.states)) source FromStart steps → IsListed kind (graph_of (valued value m)) (IsOpenReached marks (graph_of (valued value m))) steps
  start_listed steps begins f = found_from_start kind (graph_of (valued value m)) (IsHop value marks (all_links m.states)) (LeadsOpen marks) goes_along source (IsOpenReached marks (graph_of (valued value m))) (start_counts m.start refl begins) steps f

  -- the same of what a search along these links answers
  pub start_made : {D E X : Type 0} (wide : D → List Cost) (steps : E → List Step) (bound : ℕ) (members : List ℕ) (links : List (List (Link V))) (result : Result (Result D E) X) → links ≡ all_links m.states → BeginsAt kind m.start source
      → IfOk result (λ r. Measures wide steps kind (IsHop value marks links) source FromStart (length links) bound members r)
      → IfOk result (λ r. IfOk r (λ v. IsOpenMeasured marks kind (graph_of (valued value m)) (length m.states) bound (wide v)))
  start_made wide steps bound members links (Ok (Ok v)) are begins h =
      start_measured bound (wide v) begins (subst (λ (n : ℕ). AreLeast kind (IsHop value marks (all_links m.states)) source n bound (wide v)) (length-map m.states _)
      (subst (λ (ls : List (List (Link V))). AreLeast kind (IsHop value marks ls) source (length ls) bound (wide v)) are h.1))
  start_made wide steps bound members links (Ok (Err e)) are begins h = tt
  start_made wide steps bound members links (Err x) are begins h = tt

  pub start_cycle : {D E X : Type 0} (wide : D → List Cost) (steps : E → List Step) (bound : ℕ) (members : List ℕ) (links : List (List (Link V))) (result : Result (Result D E) X) → links ≡ all_links m.states → BeginsAt kind m.start source
      → IfOk result (λ r. Measures wide steps kind (IsHop value marks links) source FromStart (length links) bound members r)
      → IfOk result (λ r. IfErr r (λ e. IsListed kind (graph_of (valued value m)) (IsOpenReached marks (graph_of (valued value m))) (steps e)))
  start_cycle wide steps bound members links (Ok (Ok v)) are begins h = tt
  start_cycle wide steps bound members links (Ok (Err e)) are begins h =
      start_listed (steps e) begins (subst (λ (ls : List (List (Link V))). IsFound kind (IsHop value marks ls) source FromStart (steps e)) are h)
  start_cycle wide steps bound members links (Err x) are begins h = tt

  pub start_net : (links : List (List (Link V))) → links ≡ all_links m.states → IsNet (IsHop value marks links) (length links)
  start_net links are =
      let same : length (all_links m.states) ≡ length m.states = length-map m.states _ in
      subst (λ (ls : List (List (Link V))). IsNet (IsHop value marks ls) (length ls)) (sym are)
      (subst (λ (n : ℕ). IsNet (IsHop value marks (all_links m.states)) n) (sym same) (along_net value m marks good (λ a. true)))

-- ---- where all states count

module _ (kind : ArcType) (g : Graph ℕ) where
  open_arcs : (path : List (Transition ℕ)) → AllArcs (LeadsOpen []) path
  open_arcs [] = tt
  open_arcs (t ∷ path) = (refl, open_arcs path)

  whole_distance : (start : Option ℕ) (q : ℕ) (d : Cost) → IsOpenDistance [] kind g start q d → IsStartDistance kind g start q d
  whole_distance None q d none = none
  whole_distance (Some start) q d least = least_same (Reaches kind g (LeadsOpen []) start q) (Reaches kind g AnyArc start q) d
      (λ w r. record { path = r.path; leads = r.leads; class = any_arcs kind g (λ h. ⊥) r.path; weight = r.weight })
      (λ w r. record { path = r.path; leads = r.leads; class = open_arcs r.path; weight = r.weight }) least

  whole_measured : (n bound : ℕ) (values : List Cost) → IsOpenMeasured [] kind g n bound values → IsMeasured kind g (IsStartDistance kind g g.start) (IsAccessible g) n bound values
  whole_measured n bound values m = record {
    size = m.size;
    distances = λ q d there. whole_distance g.start q d (m.distances q d there);
    numbers = m.numbers;
    kinds = m.kinds;
    none = λ p cycle acc improves. m.none p cycle (record { first = acc.first; path = acc.path; starts = acc.starts; leads = acc.leads; class = open_arcs acc.path }) (open_arcs cycle) improves;
  }

  pub whole_made : {D E X : Type 0} (wide : D → List Cost) (marks : List Bool) (n bound : ℕ) (result : Result (Result D E) X) → marks ≡ []
      → IfOk result (λ r. IfOk r (λ v. IsOpenMeasured marks kind g n bound (wide v)))
      → IfOk result (λ r. IfOk r (λ v. IsMeasured kind g (IsStartDistance kind g g.start) (IsAccessible g) n bound (wide v)))
  whole_made wide marks n bound (Ok (Ok v)) none h = whole_measured n bound (wide v) (subst (λ (ms : List Bool). IsOpenMeasured ms kind g n bound (wide v)) none h)
  whole_made wide marks n bound (Ok (Err e)) none h = tt
  whole_made wide marks n bound (Err x) none h = tt

  pub whole_cycle : {D E X : Type 0} (steps : E → List Step) (marks : List Bool) (result : Result (Result D E) X)
      → IfOk result (λ r. IfErr r (λ e. IsListed kind g (IsOpenReached marks g) (steps e)))
      → IfOk result (λ r. IfErr r (λ e. IsListed kind g (IsAccessible g) (steps e)))
  whole_cycle steps marks (Ok (Ok v)) h = tt
  whole_cycle steps marks (Ok (Err e)) h = record {
    state = h.state;
    cycle = h.cycle;
    counts = record { first = h.counts.first; path = h.counts.path; starts = h.counts.starts; leads = h.counts.leads };
    improves = h.improves;
    same = h.same;
  }
  whole_cycle steps marks (Err x) h = tt

-- what is known of each arc is known of its link
pub known_links : {V : Type 0} (Known : V → Type 0) (test : Arc V ℕ → Bool) (states : List (State V)) → All (λ s. All (λ a. Known a.weight) s.arcs) states → (q : ℕ) (l : Link V) → Has (get_or (links_from test states) q []) l → Known l.weight
known_links {V} Known test states all q l has =
    let r = link_only test states q l has in
    subst Known (ap (λ (z : Link V). z.weight) (sym r.same)) (all_arcs (λ a. Known a.weight) states q r.index r.arc all r.there)
