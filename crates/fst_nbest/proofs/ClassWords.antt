-- The words of one total weight are the paths of that weight.
use Rattle.std.proofs.Common.{◌≡◌, ◌≢◌, ◌⊎◌, inl, inr, ℕ, ◌+◌, ◌-◌, ◌<◌, ◌≤◌, zero, suc, Bool, true, false, cond, List, [], ◌∷◌, ◌++◌, Option, None, Some, length, get_or, slice_get, refl, sym, ap, ap₂, subst, ◌∙◌, arith}
use Rattle.std.specs.List.{All}
use Rattle.std.specs.Ordering.{is_le}
use Rattle.std.proofs.lemmas.Bool.{cases_lt, le-ltb, lt-ltb, ltb-true}
use Rattle.std.proofs.lemmas.List.{length-map}
use Rattle.std.proofs.lemmas.Option.{same_Some, slice_get_past}
use Rattle.fst_semiring.specs.Cost.{Cost, infinite, cost_cmp, plus}
use Rattle.fst_semiring.specs.declared.arc_type.ArcType.TheVariants.{Boolean, MinMax}
use Rattle.fst_semiring.specs.Semiring.{times, IsCost}
use Rattle.fst_semiring.proofs.Laws.{one_times, times_assoc}
use Rattle.fst_machine.specs.BreadthFirst.{Has}
use Rattle.fst_machine.specs.Letters.{product}
use Rattle.fst_machine.specs.Machine.{Arc, IsMachine, Machine, valued}
use Rattle.fst_machine.specs.Graph.{Graph, graph_of}
use Rattle.fst_machine.specs.Paths.{Transition, IsPath, letters}
use Rattle.fst_machine.specs.PathOrder.{arc_places}
use Rattle.fst_trim.specs.Links.{Link, turned_links}
use Rattle.fst_search.proofs.Finishing.{known_turned}
use Rattle.fst_search.proofs.MachineHops.{arc_good}
use Rattle.fst_nbest.specs.Counts.{Ends, Hops, IsLeastCount, count_of, uncounted}
use Rattle.fst_nbest.specs.declared.turns.Turn.{Turn}
use Rattle.fst_nbest.specs.Turns.{HasTurn}
use Rattle.fst_nbest.specs.Words.{Words, Says, Ahead, IsAhead, AreWords, ahead_of, ahead_of_step}
use Rattle.fst_nbest.specs.Classes.{IsClassLink, IsClassStop, class_links, class_next, class_step, class_words, fits, is_counted, is_reached, name_at, reached_by, state_at, unit}
use Rattle.fst_nbest.proofs.BestHops.{arc_link, link_arc}
use Rattle.fst_nbest.proofs.Worst.{Meant, fits_meant, le_plus, meant_fits, meant_solid, meant_step, plus_le, step_meant}

-- the state of a name, and whether the total has been reached
pub state_of_name : (n q : ℕ) (reached : Bool) → q < n → state_at n (name_at n q reached) ≡ q
state_of_name n q true low = ap (λ (b : Bool). cond b q (q - n)) (lt-ltb q n low)
state_of_name n q false low = ap (λ (b : Bool). cond b (n + q) ((n + q) - n)) (le-ltb (n + q) n (omega arith)) ∙ (let e : (n + q) - n ≡ q = omega arith in e)

pub reached_of_name : (n q : ℕ) (reached : Bool) → q < n → is_reached n (name_at n q reached) ≡ reached
reached_of_name n q true low = lt-ltb q n low
reached_of_name n q false low = le-ltb (n + q) n (omega arith)

pub name_low : (n q : ℕ) (reached : Bool) → q < n → name_at n q reached < n + n
name_low n q true low = omega (arith, low)
name_low n q false low = omega (arith, low)

pub name_again : (n x : ℕ) → name_at n (state_at n x) (is_reached n x) ≡ x
name_again n x = by (cases_lt x n)
  where
    by : (x < n) ⊎ (n ≤ x) → name_at n (state_at n x) (is_reached n x) ≡ x
    by (inl low) = ap (λ (b : Bool). name_at n (cond b x (x - n)) b) (lt-ltb x n low)
    by (inr past) = ap (λ (b : Bool). name_at n (cond b x (x - n)) b) (le-ltb x n past) ∙ (let e : n + (x - n) ≡ x = omega (arith, past) in e)

pub state_low : (n x : ℕ) → x < n + n → state_at n x < n
state_low n x low = by (cases_lt x n)
  where
    by : (x < n) ⊎ (n ≤ x) → state_at n x < n
    by (inl below) = subst (λ (b : Bool). cond b x (x - n) < n) (sym (lt-ltb x n below)) below
    by (inr past) = subst (λ (b : Bool). cond b x (x - n) < n) (sym (le-ltb x n past)) (let e : x - n < n = omega (arith, past, low) in e)

cond_some : {X : Type 0} (b : Bool) (o : Option X) (x : X) → cond b o None ≡ Some x → (b ≡ true) × (o ≡ Some x)
cond_some true o x e = (refl, e)
cond_some false o x e = absurd (cc)

-- a step of a word is along an arc
pub class_arc : (n : ℕ) (total : Cost) (alive : ℕ → Bool) (reached : Bool) (o : Option (Arc Cost ℕ)) (w : Cost) (y : ℕ) → class_step n total alive reached o ≡ Some (w, y)
    → (a : Arc Cost ℕ) × (o ≡ Some a) × (is_le (cost_cmp a.weight total) ≡ true) × (alive y ≡ true) × (w ≡ unit) × (y ≡ name_at n a.next (reached_by total reached a.weight))
class_arc n total alive reached None w y e = absurd (cc)
class_arc n total alive reached (Some a) w y e =
    let z = name_at n a.next (reached_by total reached a.weight) in
    let one = cond_some (is_le (cost_cmp a.weight total)) (class_next alive z) (w, y) e in
    let two = cond_some (alive z) (Some (unit, z)) (w, y) one.1 in
    let same : (unit, z) ≡ (w, y) = same_Some (unit, z) (w, y) two.1 in
    let to : z ≡ y = ap (λ (p : Cost × ℕ). p.1) same in
    (a, refl, one.0, subst (λ (q : ℕ). alive q ≡ true) to two.0, sym (ap (λ (p : Cost × ℕ). p.0) same), sym to)

pub class_arc_step : (n : ℕ) (total : Cost) (alive : ℕ → Bool) (reached : Bool) (a : Arc Cost ℕ) → is_le (cost_cmp a.weight total) ≡ true → alive (name_at n a.next (reached_by total reached a.weight)) ≡ true
    → class_step n total alive reached (Some a) ≡ Some (unit, name_at n a.next (reached_by total reached a.weight))
class_arc_step n total alive reached a few lives =
    let y = name_at n a.next (reached_by total reached a.weight) in
    ap (λ (b : Bool). cond b (class_next alive y) None) few ∙ ap (λ (b : Bool). cond b (Some (unit, y)) None) lives

module _ {V : Type 0} (value : V → Cost) (m : Machine V) (good : IsMachine value m) (total : Cost) (solid : total ≡ infinite → ⊥) where
  -- A path from a state to a final one, whose weight fits.
  pub record ClassPath (x : ℕ) (word : List ℕ) : Type 0 where
    pub path : List (Transition ℕ)
    pub last : ℕ
    pub leads : IsPath (graph_of (valued value m)) (state_at (length m.states) x) path last
    pub final : (graph_of (valued value m)).final last ≡ infinite → ⊥
    pub meant : Meant total (is_reached (length m.states) x) (times MinMax (product MinMax (letters path)) ((graph_of (valued value m)).final last))
    pub same : arc_places path ≡ word

  -- the path that stops at once
  path_stops : (x : ℕ) → fits total (is_reached (length m.states) x) ((graph_of (valued value m)).final (state_at (length m.states) x)) ≡ true → ClassPath x []
  path_stops x holds =
      let f = (graph_of (valued value m)).final (state_at (length m.states) x) in
      let meant = fits_meant total (is_reached (length m.states) x) f holds in
      record {
        path = [];
        last = state_at (length m.states) x;
        leads = refl;
        final = meant_solid total (is_reached (length m.states) x) f solid meant;
        meant = subst (λ (w : Cost). Meant total (is_reached (length m.states) x) w) (sym (one_times MinMax f)) meant;
        same = refl;
      }

  -- one arc before a path
  path_goes_on : (x k : ℕ) (a : Arc Cost ℕ) (word : List ℕ) → slice_get ((graph_of (valued value m)).arcs (state_at (length m.states) x)) k ≡ Some a → is_le (cost_cmp a.weight total) ≡ true
      → ClassPath (name_at (length m.states) a.next (reached_by total (is_reached (length m.states) x) a.weight)) word → ClassPath x (k ∷ word)
  path_goes_on x k a word here few p =
      let g = graph_of (valued value m) in
      let n = length m.states in
      let r = is_reached n x in
      let low = (arc_good value m good (state_at n x) k a here).1 in
      let t : Transition ℕ = record { state = state_at n x; place = k; arc = a } in
      let rest = times MinMax (product MinMax (letters p.path)) (g.final p.last) in
      let meant : Meant total (reached_by total r a.weight) rest = subst (λ (b : Bool). Meant total b rest) (reached_of_name n a.next (reached_by total r a.weight) low) p.meant in
      record {
        path = t ∷ p.path;
        last = p.last;
        leads = ((refl, here), subst (λ (q : ℕ). IsPath g q p.path p.last) (state_of_name n a.next (reached_by total r a.weight) low) p.leads);
        final = p.final;
        meant = subst (λ (w : Cost). Meant total r w) (sym (times_assoc MinMax a.weight (product MinMax (letters p.path)) (g.final p.last))) (step_meant total r a.weight rest (le_plus a.weight total few) meant);
        same = ap (λ (l : List ℕ). k ∷ l) p.same;
      }

  -- hops along links are arcs
  link_step : (x y : ℕ) → Hops (class_links m) (IsClassLink value (length m.states) total) x y
      → (k : ℕ) × (a : Arc Cost ℕ) × (slice_get ((graph_of (valued value m)).arcs (state_at (length m.states) x)) k ≡ Some a) × (is_le (cost_cmp a.weight total) ≡ true) × (name_at (length m.states) a.next (reached_by total (is_reached (length m.states) x) a.weight) ≡ y)
  link_step x y (l, there, is) =
      let g = graph_of (valued value m) in
      let n = length m.states in
      let arc = link_arc value m (state_at n y) l there in
      let a = arc.0 in
      let low = (arc_good value m good l.next l.place a arc.1).0 in
      let state : state_at n x ≡ l.next = ap (state_at n) is.from ∙ state_of_name n l.next is.reached low in
      let reached : is_reached n x ≡ is.reached = ap (is_reached n) is.from ∙ reached_of_name n l.next is.reached low in (
        l.place,
        a,
        ap (λ (q : ℕ). slice_get (g.arcs q) l.place) state ∙ arc.1,
        ap (λ (w : Cost). is_le (cost_cmp w total)) arc.3 ∙ is.few,
        ap₂ (λ (q : ℕ) (b : Bool). name_at n q b) arc.2 (ap₂ (λ (b : Bool) (w : Cost). reached_by total b w) reached arc.3 ∙ sym is.to) ∙ name_again n y,
      )

  step_link : (x k : ℕ) (a : Arc Cost ℕ) → slice_get ((graph_of (valued value m)).arcs (state_at (length m.states) x)) k ≡ Some a → is_le (cost_cmp a.weight total) ≡ true
      → Hops (class_links m) (IsClassLink value (length m.states) total) x (name_at (length m.states) a.next (reached_by total (is_reached (length m.states) x) a.weight))
  step_link x k a here few =
      let n = length m.states in
      let r = reached_by total (is_reached n x) a.weight in
      let low = (arc_good value m good (state_at n x) k a here).1 in
      let link = arc_link value m good (state_at n x) k a here in (
        link.0,
        subst (λ (q : ℕ). Has (get_or (turned_links m.states) q []) link.0) (sym (state_of_name n a.next r low)) link.1,
        record {
          reached = is_reached n x;
          few = ap (λ (w : Cost). is_le (cost_cmp w total)) link.3 ∙ few;
          from = sym (name_again n x) ∙ ap (λ (q : ℕ). name_at n q (is_reached n x)) (sym link.2);
          to = reached_of_name n a.next r low ∙ ap (λ (w : Cost). reached_by total (is_reached n x) w) (sym link.3);
        },
      )

  -- what counts says is a path
  pub ends_path : (k x : ℕ) → Ends (IsClassStop value m total) (Hops (class_links m) (IsClassLink value (length m.states) total)) x k → (word : List ℕ) × ClassPath x word × (length word ≡ k)
  ends_path zero x stop = ([], path_stops x stop.is, refl)
  ends_path (suc k) x (y, hop, ends) =
      let s = link_step x y hop in
      let rest = ends_path k y ends in
      (s.0 ∷ rest.0, path_goes_on x s.0 s.1 rest.0 s.2 s.3 (subst (λ (z : ℕ). ClassPath z rest.0) (sym s.4) rest.1), ap suc rest.2)

  -- the name to which a step leads
  abbrev next_name : ℕ → Transition ℕ → ℕ
  next_name x t = name_at (length m.states) t.arc.next (reached_by total (is_reached (length m.states) x) t.arc.weight)

  -- a step is no worse than the total, and the path goes on from the name to which it leads
  step_parts : (t : Transition ℕ) (path : List (Transition ℕ)) (x last : ℕ) → IsPath (graph_of (valued value m)) (state_at (length m.states) x) (t ∷ path) last
      → Meant total (is_reached (length m.states) x) (times MinMax (product MinMax (letters (t ∷ path))) ((graph_of (valued value m)).final last))
      → (plus t.arc.weight total ≡ t.arc.weight) × IsPath (graph_of (valued value m)) (state_at (length m.states) (next_name x t)) path last × (next_name x t < length m.states + length m.states)
      × Meant total (is_reached (length m.states) (next_name x t)) (times MinMax (product MinMax (letters path)) ((graph_of (valued value m)).final last))
  step_parts t path x last leads meant =
      let g = graph_of (valued value m) in
      let n = length m.states in
      let r = is_reached n x in
      let a = t.arc in
      let rest = times MinMax (product MinMax (letters path)) (g.final last) in
      let parts = meant_step total r a.weight rest (subst (λ (w : Cost). Meant total r w) (times_assoc MinMax a.weight (product MinMax (letters path)) (g.final last)) meant) in
      let next_low = (arc_good value m good (state_at n x) t.place a leads.0.1).1 in
      let b = reached_by total r a.weight in (
        parts.0,
        subst (λ (q : ℕ). IsPath g q path last) (sym (state_of_name n a.next b next_low)) leads.1,
        name_low n a.next b next_low,
        subst (λ (c : Bool). Meant total c rest) (sym (reached_of_name n a.next b next_low)) parts.1,
      )

  -- and a path is counted
  pub path_ends : (path : List (Transition ℕ)) (x last : ℕ) → IsPath (graph_of (valued value m)) (state_at (length m.states) x) path last → ((graph_of (valued value m)).final last ≡ infinite → ⊥) → x < length m.states + length m.states
      → Meant total (is_reached (length m.states) x) (times MinMax (product MinMax (letters path)) ((graph_of (valued value m)).final last)) → Ends (IsClassStop value m total) (Hops (class_links m) (IsClassLink value (length m.states) total)) x (length path)
  path_ends [] x last leads final low meant = record {
    low = low;
    is = meant_fits total (is_reached (length m.states) x) ((graph_of (valued value m)).final (state_at (length m.states) x)) (subst (λ (w : Cost). Meant total (is_reached (length m.states) x) w) (one_times MinMax ((graph_of (valued value m)).final last) ∙ ap (graph_of (valued value m)).final (sym leads)) meant);
  }
  path_ends (t ∷ path) x last leads final low meant =
      let o = step_parts t path x last leads meant in
      (next_name x t, step_link x t.place t.arc leads.0.1 (plus_le t.arc.weight total o.0), path_ends path (next_name x t) last o.1 final o.2 o.3)

  module _ (counts : List ℕ) (least : (x : ℕ) → IsLeastCount (IsClassStop value m total) (Hops (class_links m) (IsClassLink value (length m.states) total)) x (count_of counts x)) where
    counted_lives : (x k : ℕ) → Ends (IsClassStop value m total) (Hops (class_links m) (IsClassLink value (length m.states) total)) x k → is_counted counts x ≡ true
    counted_lives x k ends = lt-ltb (count_of counts x) uncounted (let some : (count_of counts x ≡ uncounted → ⊥) = ((least x).least k ends).0 in let few = (least x).small in omega (arith, some, few))

    -- a word is a path
    pub says_class : (word : List ℕ) (x : ℕ) (v : Cost) → Says Boolean (class_words (graph_of (valued value m)) (length m.states) total (is_counted counts)) x word v → ClassPath x word × (v ≡ unit)
    says_class [] x v says =
        let r = cond_some (fits total (is_reached (length m.states) x) ((graph_of (valued value m)).final (state_at (length m.states) x))) (Some unit) v says in
        (path_stops x r.0, sym (same_Some unit v r.1))
    says_class (k ∷ word) x v (w, y, u, step, says, weight) =
        let n = length m.states in
        let s = class_arc n total (is_counted counts) (is_reached n x) (slice_get ((graph_of (valued value m)).arcs (state_at n x)) k) w y step in
        let rest = says_class word y u says in
        (path_goes_on x k s.0 word s.1 s.2 (subst (λ (z : ℕ). ClassPath z word) s.5 rest.0), weight ∙ ap₂ (times Boolean) s.4 rest.1)

    -- and a path is a word
    pub class_says : (path : List (Transition ℕ)) (x last : ℕ) → IsPath (graph_of (valued value m)) (state_at (length m.states) x) path last → ((graph_of (valued value m)).final last ≡ infinite → ⊥) → x < length m.states + length m.states
        → Meant total (is_reached (length m.states) x) (times MinMax (product MinMax (letters path)) ((graph_of (valued value m)).final last))
        → Says Boolean (class_words (graph_of (valued value m)) (length m.states) total (is_counted counts)) x (arc_places path) unit
    class_says [] x last leads final low meant =
        let e : Ends (IsClassStop value m total) (Hops (class_links m) (IsClassLink value (length m.states) total)) x 0 = path_ends [] x last leads final low meant in
        ap (λ (b : Bool). cond b (Some unit) None) e.is
    class_says (t ∷ path) x last leads final low meant =
        let n = length m.states in
        let r = is_reached n x in
        let y = next_name x t in
        let o = step_parts t path x last leads meant in
        let lives = counted_lives y (length path) (path_ends path y last o.1 final o.2 o.3) in (
          unit,
          y,
          unit,
          ap (class_step n total (is_counted counts) r) leads.0.1 ∙ class_arc_step n total (is_counted counts) r t.arc (plus_le t.arc.weight total o.0) lives,
          class_says path y last o.1 final o.2 o.3,
          refl,
        )

    -- what is ahead of a counted name
    pub class_ahead : (x : ℕ) → x < length m.states + length m.states → is_counted counts x ≡ true → IsAhead Boolean (class_words (graph_of (valued value m)) (length m.states) total (is_counted counts)) x unit (count_of counts x)
    class_ahead x low lives =
        let some : count_of counts x ≢ uncounted = λ e. (let less = ltb-true (count_of counts x) uncounted lives in omega (arith, less, e)) in
        let r = ends_path (count_of counts x) x ((least x).ends some) in
        let p = r.1 in
        record {
          word = r.0;
          says = subst (λ (w : List ℕ). Says Boolean (class_words (graph_of (valued value m)) (length m.states) total (is_counted counts)) x w unit) p.same (class_says p.path x p.last p.leads p.final low p.meant);
          long = r.2;
          least = λ other v says. (
              let q = says_class other x v says in
              let o = q.0 in
              let long : length o.path ≡ length other = sym (length-map o.path (λ (t : Transition ℕ). t.place)) ∙ ap length o.same in
              let few = ((least x).least (length o.path) (path_ends o.path x o.last o.leads o.final low o.meant)).1 in
              inr (sym q.1, omega (arith, few, long)));
        }

    -- the words of one total weight are a system
    pub class_are_words : AreWords Boolean (class_words (graph_of (valued value m)) (length m.states) total (is_counted counts)) (λ x. unit) (count_of counts)
    class_are_words = record {
      cost = λ x y k w step. subst (λ (v : Cost). IsCost Boolean v) (sym (arc_of x y k w step).4) (refl, refl);
      solid = λ x y k w step none. (let wrong : unit ≡ infinite = sym (arc_of x y k w step).4 ∙ none in absurd (cc));
      ahead = λ x y k w step. (
          let n = length m.states in
          let s = arc_of x y k w step in
          let low = (arc_good value m good (state_at n x) k s.0 s.1).1 in
          class_ahead y (subst (λ (z : ℕ). z < n + n) (sym s.5) (name_low n s.0.next (reached_by total (is_reached n x) s.0.weight) low)) s.3);
    }
      where
        arc_of : (x y k : ℕ) (w : Cost) → (class_words (graph_of (valued value m)) (length m.states) total (is_counted counts)).step x k ≡ Some (w, y)
            → (a : Arc Cost ℕ) × (slice_get ((graph_of (valued value m)).arcs (state_at (length m.states) x)) k ≡ Some a) × (is_le (cost_cmp a.weight total) ≡ true) × (is_counted counts y ≡ true) × (w ≡ unit) × (y ≡ name_at (length m.states) a.next (reached_by total (is_reached (length m.states) x) a.weight))
        arc_of x y k w step = class_arc (length m.states) total (is_counted counts) (is_reached (length m.states) x) (slice_get ((graph_of (valued value m)).arcs (state_at (length m.states) x)) k) w y step

-- ---- a link that is looked at, and a move that is put

pub link_known : {V : Type 0} (known : V → Type 0) (m : Machine V) → All (λ s. All (λ a. known a.weight) s.arcs) m.states → (y : ℕ) (l : Link V) → Has (get_or (turned_links m.states) y []) l → known l.weight
link_known known m weights y l there = known_turned known m.states weights y l there

pub link_low : {V : Type 0} (value : V → Cost) (m : Machine V) → IsMachine value m → (y : ℕ) (l : Link V) → Has (get_or (turned_links m.states) y []) l → l.next < length m.states
link_low value m good y l there = let arc = link_arc value m y l there in (arc_good value m good l.next l.place arc.0 arc.1).0

pub class_turn : (g : Words ℕ) (count : ℕ → ℕ) (x k y : ℕ) (turns new : List (Turn Cost)) (t : Turn Cost) → g.step x k ≡ Some (unit, y) → t.total ≡ unit → t.arcs ≡ suc (count y) → t.turn ≡ k + 1 → new ≡ turns ++ t ∷ []
    → HasTurn (λ (c : Cost). c) (k + 1) (ahead_of Boolean g (λ z. unit) count x (k + 1)) turns new
class_turn g count x k y turns new t step total arcs turn put =
    let e : k + 1 ≡ suc k = omega arith in
    let ahead : ahead_of Boolean g (λ z. unit) count x (k + 1) ≡ Some (record { total = unit; arcs = suc (count y) }) = ap (ahead_of Boolean g (λ z. unit) count x) e ∙ ap (ahead_of_step Boolean g (λ z. unit) count) step in
    subst (λ (o : Option Ahead). HasTurn (λ (c : Cost). c) (k + 1) o turns new) (sym ahead) (t, put, turn, total, arcs)

-- past the arcs there is no move
pub class_no_move : (g : Graph ℕ) (n : ℕ) (total : Cost) (alive : ℕ → Bool) (count : ℕ → ℕ) (x k : ℕ) → suc (length (g.arcs (state_at n x))) ≤ k → ahead_of Boolean (class_words g n total alive) (λ z. unit) count x k ≡ None
class_no_move g n total alive count x zero past = absurd (omega (arith, past))
class_no_move g n total alive count x (suc k) past =
    ap (λ (o : Option (Arc Cost ℕ)). ahead_of_step Boolean (class_words g n total alive) (λ z. unit) count (class_step n total alive (is_reached n x) o)) (slice_get_past (g.arcs (state_at n x)) k (omega (arith, past)))
