use Rattle.std.proofs.Common.{◌≡◌, ◌*◌, [], Bool, true, List, Result, Ok, Err, length, map, refl, subst}
use Rattle.std.specs.Prelude.{IfOk}
use Rattle.fst_machine.specs.Graph.{graph_of}
use Rattle.fst_machine.specs.Machine.{valued}
use Rattle.fst_trim.specs.Links.{Link}
use Rattle.fst_search.specs.Closure.{IsClosure, valued_reached}
use Rattle.fst_search.specs.Hops.{IsHop}
use Rattle.fst_search.specs.Near.{ShortSearch, costs_of, one_at}
use Rattle.fst_search.proofs.NearClosure.{near_closure}
use Rattle.fst_search.proofs.Silent.{silent_net}
use Rattle.fst_search.proofs.short_search.near.Goals as goal

pub try_search-soon-requires-clause-net : goal.try_search-soon-requires-clause-net
try_search-soon-requires-clause-net g c = silent_net g.W.Weight.KIND g.W.Weight.value c.args.fst.now c.states-states.ensures.machine [] c.args.links.now refl c.requires.links

-- what follows from an answer
ok_then : {E : Type 0} (r : Result Bool E) (P Q : Bool → Type 0) → ((b : Bool) → P b → Q b) → IfOk r P → IfOk r Q
ok_then (Ok b) P Q f h = f b h
ok_then (Err e) P Q f h = tt

pub returns-clause-closure : goal.returns-clause-closure
returns-clause-closure g c =
    let value = g.W.Weight.value in
    let kind = g.W.Weight.KIND in
    let m = c.args.fst.now in
    let items = c.try_search-soon.new.reached.items in
    let places = c.try_search-soon.new.places.items in
    ok_then c.try_search-soon.result (λ b. b ≡ true → ShortSearch kind (IsHop value [] c.args.links.now) (one_at kind c.args.state) (length items) places (costs_of value items))
    (λ b. b ≡ true → IsClosure kind (graph_of (valued value m)) c.args.state (length m.states * 1000000000000000000) (map (valued_reached value) items))
    (λ b found yes. near_closure kind value m c.states-states.ensures.machine c.args.state c.requires.state items places c.try_search-soon.ensures.placed
    (subst (λ (ls : List (List (Link g.row.W.Denot))). ShortSearch kind (IsHop value [] ls) (one_at kind c.args.state) (length items) places (costs_of value items)) c.requires.links (found yes)))
    c.try_search-soon.ensures.found
