-- The successful paths of a machine of chains.
use Rattle.std.proofs.Common.{◌≡◌, ◌⊎◌, inl, inr, ℕ, ◌+◌, ◌<◌, ◌≤◌, zero, suc, List, [], ◌∷◌, Option, None, Some, length, map, slice_get, refl, sym, ap, ap₂, subst, ◌∙◌, arith}
use Rattle.std.proofs.Common.{Ordering, Less, Equal, Greater}
use Rattle.std.specs.Ordering.{nat_cmp, ordering_then}
use Rattle.std.specs.Cmp.{nat_cmp_is}
use Rattle.std.specs.Cmp.Lexicographic.{slice_cmp}
use Rattle.std.proofs.lemmas.Option.{get_or_from_slice_get}
use Rattle.fst_semiring.specs.Cost.{Cost, infinite, cost_cmp}
use Rattle.fst_semiring.specs.declared.arc_type.ArcType.{ArcType}
use Rattle.fst_semiring.specs.Semiring.{one_of, times}
use Rattle.fst_machine.specs.Machine.{Arc, State, Machine}
use Rattle.fst_machine.specs.Graph.{Graph, graph_of}
use Rattle.fst_machine.specs.Letters.{Letter, letter_of, product}
use Rattle.fst_machine.specs.Paths.{Transition, Leaves, IsPath, letters, places}
use Rattle.fst_machine.specs.Relation.{IsSuccessful}
use Rattle.fst_machine.specs.BreadthFirst.{Has}
use Rattle.fst_machine.specs.PathOrder.{WeightedPath, arc_places, path_cmp, Ascends}
use Rattle.fst_machine.proofs.Arcs.{append_at}
use Rattle.fst_nbest.specs.Chains.{Chain, no_arc, arc_at, end_of, last_weight, chain_of, lettered, tail_states, own_states, first_arc, first_arcs, all_states, start_weight, final_of, chained, SayTheSame, IsChained}
use Rattle.fst_nbest.specs.Listing.{IsWritten}
use Rattle.fst_nbest.proofs.Standing.{Stands, stands_head, stands_tail, stands_left, stands_right, stands_behind, stands_whole, state_arcs, state_final}

-- ---- the paths of a machine of chains

-- the rest of a chain from the state in place k
abbrev pub tail_path : ℕ → List Letter → List (Transition ℕ)
tail_path k [] = []
tail_path k (l ∷ ls) = record { state = k; place = 0; arc = lettered (suc k) l } ∷ tail_path (suc k) ls

abbrev pub tail_end : ℕ → List Letter → ℕ
tail_end k [] = k
tail_end k (l ∷ ls) = tail_end (suc k) ls

-- a chain that leaves the start by the arc in place j
abbrev pub chain_path : ℕ → ℕ → List Letter → List (Transition ℕ)
chain_path j k [] = []
chain_path j k (l ∷ ls) = record { state = 0; place = j; arc = lettered k l } ∷ tail_path k ls

-- the path of a chain with its weight
abbrev pub chain_listed : ArcType → ℕ → ℕ → Chain → WeightedPath ℕ
chain_listed kind j k c = record { path = chain_path j k c.letters; weight = times kind (product kind c.letters) c.last }

abbrev pub chain_list : ArcType → ℕ → ℕ → List Chain → List (WeightedPath ℕ)
chain_list kind j k [] = []
chain_list kind j k (c ∷ cs) = chain_listed kind j k c ∷ chain_list kind (j + length (first_arc k c.letters)) (k + length c.letters) cs

tail_letters : (k : ℕ) (ls : List Letter) → letters (tail_path k ls) ≡ ls
tail_letters k [] = refl
tail_letters k (l ∷ ls) = ap (λ (ms : List Letter). l ∷ ms) (tail_letters (suc k) ls)

chain_letters : (j k : ℕ) (ls : List Letter) → letters (chain_path j k ls) ≡ ls
chain_letters j k [] = refl
chain_letters j k (l ∷ ls) = ap (λ (ms : List Letter). l ∷ ms) (tail_letters k ls)

tail-length : (k : ℕ) (last : Cost) (ls : List Letter) → length (tail_states k last ls) ≡ suc (length ls)
tail-length k last [] = refl
tail-length k last (l ∷ ls) = ap suc (tail-length (suc k) last ls)

pub own-length : (k : ℕ) (last : Cost) (ls : List Letter) → length (own_states k last ls) ≡ length ls
own-length k last [] = refl
own-length k last (l ∷ ls) = tail-length k last ls

-- the only element of a list of one
only_at : {X : Type 0} (x y : X) (i : ℕ) → slice_get (x ∷ []) i ≡ Some y → (i ≡ 0) × (y ≡ x)
only_at x y zero e = (refl, cc)
only_at x y (suc i) e = absurd (cc)

module _ (m : Machine Cost) where
  tail_leads : (k : ℕ) (last : Cost) (ls : List Letter) → Stands m.states k (tail_states k last ls) → IsPath (graph_of m) k (tail_path k ls) (tail_end k ls) × ((graph_of m).final (tail_end k ls) ≡ last)
  tail_leads k last [] h = (refl, state_final m k (record { final = last; arcs = [] }) (stands_head m.states k _ [] h))
  tail_leads k last (l ∷ ls) h =
      let s : State Cost = record { final = infinite; arcs = lettered (suc k) l ∷ [] } in
      let arcs : (graph_of m).arcs k ≡ lettered (suc k) l ∷ [] = state_arcs m k s (stands_head m.states k s (tail_states (suc k) last ls) h) in
      let has : slice_get ((graph_of m).arcs k) 0 ≡ Some (lettered (suc k) l) = ap (λ (arcs : List (Arc Cost ℕ)). slice_get arcs 0) arcs in
      let rest = tail_leads (suc k) last ls (stands_tail m.states k s (tail_states (suc k) last ls) h) in
      (((refl, has), rest.0), rest.1)

  tail_only : (k : ℕ) (last : Cost) (ls : List Letter) → Stands m.states k (tail_states k last ls) → (path : List (Transition ℕ)) (q : ℕ) → IsPath (graph_of m) k path q
      → ((graph_of m).final q ≡ infinite → ⊥) → (path ≡ tail_path k ls) × ((graph_of m).final q ≡ last)
  tail_only k last [] h [] q here final =
      (refl, ap (λ (p : ℕ). (graph_of m).final p) (sym here) ∙ state_final m k (record { final = last; arcs = [] }) (stands_head m.states k _ [] h))
  tail_only k last [] h (t ∷ path) q leads final =
      let arcs : (graph_of m).arcs k ≡ [] = state_arcs m k (record { final = last; arcs = [] }) (stands_head m.states k _ [] h) in
      let has : slice_get {X = Arc Cost ℕ} [] t.place ≡ Some t.arc = ap (λ (arcs : List (Arc Cost ℕ)). slice_get arcs t.place) (sym arcs) ∙ leads.0.1 in
      absurd (cc)
  tail_only k last (l ∷ ls) h [] q here final =
      let s : State Cost = record { final = infinite; arcs = lettered (suc k) l ∷ [] } in
      absurd (final (ap (λ (p : ℕ). (graph_of m).final p) (sym here) ∙ state_final m k s (stands_head m.states k s (tail_states (suc k) last ls) h)))
  tail_only k last (l ∷ ls) h (t ∷ path) q leads final =
      let s : State Cost = record { final = infinite; arcs = lettered (suc k) l ∷ [] } in
      let arcs : (graph_of m).arcs k ≡ lettered (suc k) l ∷ [] = state_arcs m k s (stands_head m.states k s (tail_states (suc k) last ls) h) in
      let has : slice_get (lettered (suc k) l ∷ []) t.place ≡ Some t.arc = ap (λ (arcs : List (Arc Cost ℕ)). slice_get arcs t.place) (sym arcs) ∙ leads.0.1 in
      let only = only_at (lettered (suc k) l) t.arc t.place has in
      let same : t ≡ record { state = k; place = 0; arc = lettered (suc k) l } = λ i. record { state = leads.0.0 i; place = only.0 i; arc = only.1 i } in
      let moved : IsPath (graph_of m) (suc k) path q = subst (λ (a : Arc Cost ℕ). IsPath (graph_of m) a.next path q) only.1 leads.1 in
      let rest = tail_only (suc k) last ls (stands_tail m.states k s (tail_states (suc k) last ls) h) path q moved final in
      (ap₂ (◌∷◌) same rest.0, rest.1)

-- a chain without arcs has this final weight
abbrev pub EndsAs : Cost → List Letter → Cost → Type 0
EndsAs v [] last = last ≡ v
EndsAs v (l ∷ ls) last = Unit {0}

-- each chain without arcs does
abbrev pub EndAlike : Cost → List Chain → Type 0
EndAlike v [] = Unit {0}
EndAlike v (c ∷ cs) = EndsAs v c.letters c.last × EndAlike v cs

-- each chain ends in a final name
abbrev pub AreFinal : List Chain → Type 0
AreFinal [] = Unit {0}
AreFinal (c ∷ cs) = (c.last ≡ infinite → ⊥) × AreFinal cs

abbrev pub HasEmpty : List Chain → Type 0
HasEmpty [] = ⊥
HasEmpty (c ∷ cs) = (c.letters ≡ []) ⊎ HasEmpty cs

-- a successful path that says what the chain says
pub record SaysChain (kind : ArcType) (h : Graph ℕ) (c : Chain) : Type 0 where
  pub path : List (Transition ℕ)
  pub successful : IsSuccessful kind h path (times kind (product kind c.letters) c.last)
  pub said : letters path ≡ c.letters

-- The successful paths say just what the chains say that have a final weight.
pub record SayChains (kind : ArcType) (cs : List Chain) (h : Graph ℕ) : Type 0 where
  pub each : (c : Chain) → Has cs c → (c.last ≡ infinite → ⊥) → SaysChain kind h c
  pub all : (path : List (Transition ℕ)) (w : Cost) → IsSuccessful kind h path w
      → (c : Chain) × Has cs c × (letters path ≡ c.letters) × (w ≡ times kind (product kind c.letters) c.last)

module _ (kind : ArcType) (m : Machine Cost) (v : Cost) (starts : m.start ≡ Some 0) where
  abbrev h : Graph ℕ
  h = graph_of m

  one_successful : (j k : ℕ) (ls : List Letter) (last : Cost) → Stands (h.arcs 0) j (first_arc k ls) → Stands m.states k (own_states k last ls) → EndsAs v ls last → (last ≡ infinite → ⊥)
      → (ls ≡ [] → h.final 0 ≡ v) → IsSuccessful kind h (chain_path j k ls) (times kind (product kind ls) last)
  one_successful j k [] last arcs states ends final start =
      let same : last ≡ h.final 0 = ends ∙ sym (start refl) in
      record { first = 0; last = 0; starts = starts; leads = refl; final = λ e. final (same ∙ e); weight = ap (λ (w : Cost). times kind (one_of kind) w) same }
  one_successful j k (l ∷ ls) last arcs states ends final start =
      let rest = tail_leads m k last ls states in
      record {
        first = 0;
        last = tail_end k ls;
        starts = starts;
        leads = ((refl, stands_head (h.arcs 0) j (lettered k l) [] arcs), rest.0);
        final = λ e. final (sym rest.1 ∙ e);
        weight = ap₂ (λ (ms : List Letter) (w : Cost). times kind (product kind (l ∷ ms)) w) (sym (tail_letters k ls)) (sym rest.1);
      }

  all_successful : (j k : ℕ) (cs : List Chain) → Stands (h.arcs 0) j (first_arcs k cs) → Stands m.states k (all_states k cs) → EndAlike v cs → AreFinal cs → (HasEmpty cs → h.final 0 ≡ v)
      → (c : WeightedPath ℕ) → Has (chain_list kind j k cs) c → IsSuccessful kind h c.path c.weight
  all_successful j k [] arcs states alike final start c none = absurd none
  all_successful j k (d ∷ cs) arcs states alike final start c (inl e) =
      subst (λ (b : WeightedPath ℕ). IsSuccessful kind h b.path b.weight) e
      (one_successful j k d.letters d.last (stands_left (h.arcs 0) j (first_arc k d.letters) (first_arcs (k + length d.letters) cs) arcs)
      (stands_left m.states k (own_states k d.last d.letters) (all_states (k + length d.letters) cs) states) alike.0 final.0 (λ none. start (inl none)))
  all_successful j k (d ∷ cs) arcs states alike final start c (inr there) =
      all_successful (j + length (first_arc k d.letters)) (k + length d.letters) cs
      (stands_right (h.arcs 0) j (length (first_arc k d.letters)) (first_arc k d.letters) (first_arcs (k + length d.letters) cs) refl arcs)
      (stands_right m.states k (length d.letters) (own_states k d.last d.letters) (all_states (k + length d.letters) cs) (own-length k d.last d.letters) states) alike.1 final.1 (λ e. start (inr e)) c there

  -- each chain with a final weight is said, whatever the others have
  each_said : (j k : ℕ) (cs : List Chain) → Stands (h.arcs 0) j (first_arcs k cs) → Stands m.states k (all_states k cs) → EndAlike v cs → (HasEmpty cs → h.final 0 ≡ v)
      → (c : Chain) → Has cs c → (c.last ≡ infinite → ⊥) → SaysChain kind h c
  each_said j k [] arcs states alike start c none final = absurd none
  each_said j k (d ∷ cs) arcs states alike start c (inl e) final =
      subst (λ (b : Chain). SaysChain kind h b) e (record {
        path = chain_path j k d.letters;
        successful = one_successful j k d.letters d.last (stands_left (h.arcs 0) j (first_arc k d.letters) (first_arcs (k + length d.letters) cs) arcs)
            (stands_left m.states k (own_states k d.last d.letters) (all_states (k + length d.letters) cs) states) alike.0 (λ z. final (ap (λ (b : Chain). b.last) (sym e) ∙ z)) (λ none. start (inl none));
        said = chain_letters j k d.letters;
      })
  each_said j k (d ∷ cs) arcs states alike start c (inr there) final =
      each_said (j + length (first_arc k d.letters)) (k + length d.letters) cs
      (stands_right (h.arcs 0) j (length (first_arc k d.letters)) (first_arc k d.letters) (first_arcs (k + length d.letters) cs) refl arcs)
      (stands_right m.states k (length d.letters) (own_states k d.last d.letters) (all_states (k + length d.letters) cs) (own-length k d.last d.letters) states) alike.1 (λ e. start (inr e)) c there final

  -- a path that leaves the start by an arc of a chain is that chain
  one_only : (j k : ℕ) (ls : List Letter) (last : Cost) → Stands m.states k (own_states k last ls) → (t : Transition ℕ) (path : List (Transition ℕ)) (q i : ℕ) → slice_get (first_arc k ls) i ≡ Some t.arc
      → t.state ≡ 0 → t.place ≡ j + i → IsPath h t.arc.next path q → (h.final q ≡ infinite → ⊥) → (t ∷ path ≡ chain_path j k ls) × (h.final q ≡ last)
  one_only j k [] last states t path q i e state place leads final = absurd (cc)
  one_only j k (l ∷ ls) last states t path q i e state place leads final =
      let only = only_at (lettered k l) t.arc i e in
      let here : t.place ≡ j = omega (arith, place, only.0) in
      let same : t ≡ record { state = 0; place = j; arc = lettered k l } = λ n. record { state = state n; place = here n; arc = only.1 n } in
      let moved : IsPath h k path q = subst (λ (a : Arc Cost ℕ). IsPath h a.next path q) only.1 leads in
      let rest = tail_only m k last ls states path q moved final in
      (ap₂ (◌∷◌) same rest.0, rest.1)

  all_only : (j k : ℕ) (cs : List Chain) → Stands m.states k (all_states k cs) → (t : Transition ℕ) (path : List (Transition ℕ)) (q i : ℕ) → slice_get (first_arcs k cs) i ≡ Some t.arc
      → t.state ≡ 0 → t.place ≡ j + i → IsPath h t.arc.next path q → (h.final q ≡ infinite → ⊥)
      → Has (chain_list kind j k cs) (record { path = t ∷ path; weight = times kind (product kind (letters (t ∷ path))) (h.final q) })
  all_only j k [] states t path q i e state place leads final = absurd (cc)
  all_only j k (c ∷ cs) states t path q i e state place leads final =
      by_part (append_at (first_arc k c.letters) (first_arcs (k + length c.letters) cs) i t.arc e)
      (λ n f p. all_only (j + length (first_arc k c.letters)) (k + length c.letters) cs (stands_right m.states k (length c.letters) (own_states k c.last c.letters) (all_states (k + length c.letters) cs) (own-length k c.last c.letters) states) t path q n f state p leads final)
    where
      by_part : (slice_get (first_arc k c.letters) i ≡ Some t.arc) ⊎ ((n : ℕ) × (slice_get (first_arcs (k + length c.letters) cs) n ≡ Some t.arc) × (i ≡ length (first_arc k c.letters) + n))
          → ((n : ℕ) → slice_get (first_arcs (k + length c.letters) cs) n ≡ Some t.arc → t.place ≡ (j + length (first_arc k c.letters)) + n
          → Has (chain_list kind (j + length (first_arc k c.letters)) (k + length c.letters) cs) (record { path = t ∷ path; weight = times kind (product kind (letters (t ∷ path))) (h.final q) }))
          → Has (chain_list kind j k (c ∷ cs)) (record { path = t ∷ path; weight = times kind (product kind (letters (t ∷ path))) (h.final q) })
      by_part (inl f) later =
          let only = one_only j k c.letters c.last (stands_left m.states k (own_states k c.last c.letters) (all_states (k + length c.letters) cs) states) t path q i f state place leads final in
          let said : letters (t ∷ path) ≡ c.letters = ap (λ (p : List (Transition ℕ)). letters p) only.0 ∙ chain_letters j k c.letters in
          inl (λ n. record { path = sym only.0 n; weight = times kind (product kind (sym said n)) (sym only.1 n) })
      by_part (inr r) later = inr (later r.0 r.1 (omega (arith, place, r.2)))

-- the final weight of the start
final_same : (v : Cost) (cs : List Chain) → EndAlike v cs → final_of v cs ≡ v
final_same v [] alike = refl
final_same v (c ∷ cs) alike = ap (λ (w : Cost). final_of w cs) (by_letters c.letters alike.0) ∙ final_same v cs alike.1
  where
    by_letters : (ls : List Letter) → EndsAs v ls c.last → start_weight v c.last ls ≡ v
    by_letters [] e = e
    by_letters (l ∷ ls) e = refl

pub final_empty : (v so_far : Cost) (cs : List Chain) → EndAlike v cs → HasEmpty cs → final_of so_far cs ≡ v
final_empty v so_far [] alike none = absurd none
final_empty v so_far (c ∷ cs) alike (inl e) =
    let ends : c.last ≡ v = subst (λ (ls : List Letter). EndsAs v ls c.last) e alike.0 in
    ap (λ (ls : List Letter). final_of (start_weight so_far c.last ls) cs) e ∙ (ap (λ (w : Cost). final_of w cs) ends ∙ final_same v cs alike.1)
final_empty v so_far (c ∷ cs) alike (inr there) = final_empty v (start_weight so_far c.last c.letters) cs alike.1 there

-- where the start is final, a chain without arcs is listed
empty_listed : (kind : ArcType) (v so_far : Cost) (j k : ℕ) (cs : List Chain) → EndAlike v cs → so_far ≡ infinite → (final_of so_far cs ≡ infinite → ⊥)
    → Has (chain_list kind j k cs) (record { path = []; weight = times kind (one_of kind) v })
empty_listed kind v so_far j k [] alike none final = absurd (final none)
empty_listed kind v so_far j k (c ∷ cs) alike none final =
    by_letters c.letters refl (λ e. empty_listed kind v (start_weight so_far c.last c.letters) (j + length (first_arc k c.letters)) (k + length c.letters) cs alike.1 (e ∙ none) final)
  where
    by_letters : (ls : List Letter) → c.letters ≡ ls
        → (start_weight so_far c.last c.letters ≡ so_far → Has (chain_list kind (j + length (first_arc k c.letters)) (k + length c.letters) cs) (record { path = []; weight = times kind (one_of kind) v }))
        → Has (chain_list kind j k (c ∷ cs)) (record { path = []; weight = times kind (one_of kind) v })
    by_letters [] e later =
        let ends : c.last ≡ v = subst (λ (ls : List Letter). EndsAs v ls c.last) e alike.0 in
        inl (λ n. record { path = chain_path j k (e n); weight = times kind (product kind (e n)) (ends n) })
    by_letters (l ∷ ls) e later = inr (later (ap (λ (ms : List Letter). start_weight so_far c.last ms) e))

-- ---- in order

-- the path has no arcs, or leaves by the arc in place j or a later one
abbrev Begins : ℕ → List (Transition ℕ) → Type 0
Begins j [] = Unit {0}
Begins j (t ∷ path) = j ≤ t.place

begins_earlier : (i j : ℕ) (path : List (Transition ℕ)) → i ≤ j → Begins j path → Begins i path
begins_earlier i j [] low b = tt
begins_earlier i j (t ∷ path) low b = omega (arith, low, b)

chain_begins : (j k : ℕ) (ls : List Letter) → Begins j (chain_path j k ls)
chain_begins j k [] = tt
chain_begins j k (l ∷ ls) = omega arith

-- the list says what the chains say
abbrev pub Fits : {N : Type 0} → ArcType → List (WeightedPath N) → List Chain → Type 0
Fits kind [] [] = Unit {0}
Fits kind [] (c ∷ cs) = ⊥
Fits kind (a ∷ listed) [] = ⊥
Fits kind (a ∷ listed) (c ∷ cs) = (letters a.path ≡ c.letters) × (a.weight ≡ times kind (product kind c.letters) c.last) × Fits kind listed cs

letters-length : {N : Type 0} (path : List (Transition N)) → length (letters path) ≡ length path
letters-length [] = refl
letters-length (t ∷ path) = ap suc (letters-length path)

chain-length : {N : Type 0} (j k : ℕ) (path : List (Transition N)) (ls : List Letter) → letters path ≡ ls → length (chain_path j k ls) ≡ length path
chain-length j k path ls e =
    let one : length (letters (chain_path j k ls)) ≡ length ls = ap length (chain_letters j k ls) in
    let two : length (letters path) ≡ length ls = ap length e in
    let three = letters-length (chain_path j k ls) in
    let four = letters-length path in
    omega (arith, one, two, three, four)

pub same_said : {N : Type 0} (kind : ArcType) (j k : ℕ) (listed : List (WeightedPath N)) (cs : List Chain) → Fits kind listed cs → SayTheSame listed (chain_list kind j k cs)
same_said kind j k [] [] fits = tt
same_said kind j k [] (c ∷ cs) fits = absurd fits
same_said kind j k (a ∷ listed) [] fits = absurd fits
same_said kind j k (a ∷ listed) (c ∷ cs) fits =
    (chain_letters j k c.letters ∙ sym fits.0, sym fits.1, same_said kind (j + length (first_arc k c.letters)) (k + length c.letters) listed cs fits.2)

-- a chain's path stands for one of the list
record StandsFor {N : Type 0} (listed : List (WeightedPath N)) (j : ℕ) (c : WeightedPath ℕ) : Type 0 where
  pub other : WeightedPath N
  pub has : Has listed other
  pub weight : c.weight ≡ other.weight
  pub long : length c.path ≡ length other.path
  pub begins : Begins j c.path

stands_for : {N : Type 0} (kind : ArcType) (j k : ℕ) (listed : List (WeightedPath N)) (cs : List Chain) → Fits kind listed cs → (c : WeightedPath ℕ) → Has (chain_list kind j k cs) c → StandsFor listed j c
stands_for kind j k [] [] fits c none = absurd none
stands_for kind j k [] (d ∷ cs) fits c there = absurd fits
stands_for kind j k (a ∷ listed) [] fits c none = absurd none
stands_for {N} kind j k (a ∷ listed) (d ∷ cs) fits c (inl e) =
    record {
      other = a;
      has = inl refl;
      weight = ap (λ (b : WeightedPath ℕ). b.weight) (sym e) ∙ sym fits.1;
      long = ap (λ (b : WeightedPath ℕ). length b.path) (sym e) ∙ chain-length j k a.path d.letters fits.0;
      begins = subst (λ (b : WeightedPath ℕ). Begins j b.path) e (chain_begins j k d.letters);
    }
stands_for {N} kind j k (a ∷ listed) (d ∷ cs) fits c (inr there) =
    let rest = stands_for kind (j + length (first_arc k d.letters)) (k + length d.letters) listed cs fits.2 c there in
    record { other = rest.other; has = inr rest.has; weight = rest.weight; long = rest.long; begins = begins_earlier j (j + length (first_arc k d.letters)) c.path (omega arith) rest.begins }

-- where the third comparison is Less whenever it was, all three are
then_last : (x y z u : Ordering) → ordering_then x (ordering_then y z) ≡ Less → (z ≡ Less → u ≡ Less) → ordering_then x (ordering_then y u) ≡ Less
then_last Less y z u e f = refl
then_last Equal Less z u e f = refl
then_last Equal Equal z u e f = f e
then_last Equal Greater z u e f = absurd (cc)
then_last Greater y z u e f = absurd (cc)

places_less : {N : Type 0} (xs ys : List (Transition ℕ)) (us vs : List (Transition N)) (j n : ℕ) → length xs ≡ length us → length ys ≡ length vs → n ≡ j + 1
    → ((t : Transition ℕ) (path : List (Transition ℕ)) → xs ≡ t ∷ path → (t.place ≡ j) × Begins n ys)
    → slice_cmp nat_cmp (arc_places us) (arc_places vs) ≡ Less → slice_cmp nat_cmp (arc_places xs) (arc_places ys) ≡ Less
places_less [] [] [] [] j n one two next first e = e
places_less [] [] [] (v ∷ vs) j n one two next first e = absurd (omega (arith, two))
places_less [] [] (u ∷ us) vs j n one two next first e = absurd (omega (arith, one))
places_less [] (y ∷ ys) us vs j n one two next first e = refl
places_less (x ∷ xs) [] [] vs j n one two next first e = absurd (omega (arith, one))
places_less (x ∷ xs) [] (u ∷ us) [] j n one two next first e = absurd (cc)
places_less (x ∷ xs) [] (u ∷ us) (v ∷ vs) j n one two next first e = absurd (omega (arith, two))
places_less (x ∷ xs) (y ∷ ys) us vs j n one two next first e =
    let f = first x xs refl in
    let below : x.place < y.place = omega (arith, f.0, f.1, next) in
    ap (λ (o : Ordering). ordering_then o (slice_cmp nat_cmp (arc_places xs) (arc_places ys))) (sym (nat_cmp_is x.place y.place Less below))

module _ {N : Type 0} (kind : ArcType) (j k : ℕ) (a b : WeightedPath N) (c : Chain) (d : WeightedPath ℕ) where
  -- a chain comes before each that leaves the start by a later arc, where it does so in the list
  chain_before : letters a.path ≡ c.letters → a.weight ≡ times kind (product kind c.letters) c.last → d.weight ≡ b.weight → length d.path ≡ length b.path → Begins (j + length (first_arc k c.letters)) d.path
      → path_cmp a b ≡ Less → path_cmp (chain_listed kind j k c) d ≡ Less
  chain_before said weighs weight long begins e =
      let e1 : ordering_then (cost_cmp (times kind (product kind c.letters) c.last) d.weight) (ordering_then (nat_cmp (length (chain_path j k c.letters)) (length d.path)) (slice_cmp nat_cmp (arc_places a.path) (arc_places b.path))) ≡ Less =
      ap₂ (λ (w : Cost) (n : ℕ). ordering_then (cost_cmp w d.weight) (ordering_then (nat_cmp n (length d.path)) (slice_cmp nat_cmp (arc_places a.path) (arc_places b.path)))) (sym weighs) (chain-length j k a.path c.letters said)
      ∙ (ap₂ (λ (w : Cost) (n : ℕ). ordering_then (cost_cmp a.weight w) (ordering_then (nat_cmp (length a.path) n) (slice_cmp nat_cmp (arc_places a.path) (arc_places b.path)))) weight long ∙ e) in
      then_last (cost_cmp (times kind (product kind c.letters) c.last) d.weight) (nat_cmp (length (chain_path j k c.letters)) (length d.path)) (slice_cmp nat_cmp (arc_places a.path) (arc_places b.path))
      (slice_cmp nat_cmp (arc_places (chain_path j k c.letters)) (arc_places d.path)) e1
      (places_less (chain_path j k c.letters) d.path a.path b.path j (j + 1) (chain-length j k a.path c.letters said) long refl (λ t path. first c.letters begins t path))
    where
      first : (ls : List Letter) → Begins (j + length (first_arc k ls)) d.path → (t : Transition ℕ) (path : List (Transition ℕ)) → chain_path j k ls ≡ t ∷ path → (t.place ≡ j) × Begins (j + 1) d.path
      first [] b t path f = absurd (cc)
      first (l ∷ ls) b t path f = (let g : record { state = 0; place = j; arc = lettered k l } ≡ t = cc in ap (λ (s : Transition ℕ). s.place) (sym g), b)

pub chains_ordered : {N : Type 0} (kind : ArcType) (j k : ℕ) (listed : List (WeightedPath N)) (cs : List Chain) → Fits kind listed cs → Ascends listed → Ascends (chain_list kind j k cs)
chains_ordered kind j k [] [] fits ascends = tt
chains_ordered kind j k [] (c ∷ cs) fits ascends = absurd fits
chains_ordered kind j k (a ∷ listed) [] fits ascends = tt
chains_ordered {N} kind j k (a ∷ listed) (c ∷ cs) fits ascends =
    (λ d there. before d (stands_for kind (j + length (first_arc k c.letters)) (k + length c.letters) listed cs fits.2 d there), chains_ordered kind (j + length (first_arc k c.letters)) (k + length c.letters) listed cs fits.2 ascends.1)
  where
    before : (d : WeightedPath ℕ) → StandsFor listed (j + length (first_arc k c.letters)) d → path_cmp (chain_listed kind j k c) d ≡ Less
    before d s = chain_before kind j k a s.other c d fits.0 fits.1 s.weight s.long s.begins (ascends.0 s.other s.has)

-- ---- the machine of chains

-- no path is successful where there is no start
none_start : (kind : ArcType) (g : Graph ℕ) (path : List (Transition ℕ)) (w : Cost) → g.start ≡ None → IsSuccessful kind g path w → ⊥
none_start kind g path w none h = let e : None ≡ Some h.first = sym none ∙ h.starts in cc

-- what stands in the list is said by one of the chains
list_said : (kind : ArcType) (j k : ℕ) (cs : List Chain) (p : WeightedPath ℕ) → Has (chain_list kind j k cs) p
    → (c : Chain) × Has cs c × (letters p.path ≡ c.letters) × (p.weight ≡ times kind (product kind c.letters) c.last)
list_said kind j k [] p none = absurd none
list_said kind j k (c ∷ cs) p (inl e) = (c, inl refl, ap (λ (q : WeightedPath ℕ). letters q.path) (sym e) ∙ chain_letters j k c.letters, ap (λ (q : WeightedPath ℕ). q.weight) (sym e))
list_said kind j k (c ∷ cs) p (inr there) =
    let rest = list_said kind (j + length (first_arc k c.letters)) (k + length c.letters) cs p there in
    (rest.0, inr rest.1, rest.2, rest.3)

module _ (kind : ArcType) (v : Cost) (d : Chain) (ds : List Chain) (alike : EndAlike v (d ∷ ds)) where
  abbrev cs : List Chain
  cs = d ∷ ds

  abbrev m : Machine Cost
  m = chained (d ∷ ds)

  no_letters : (j k : ℕ) (ls : List Letter) → chain_path j k ls ≡ [] → ls ≡ []
  no_letters j k [] f = refl
  no_letters j k (l ∷ ls) f = absurd (cc)

  empty_there : (j k : ℕ) (es : List Chain) → Has (chain_list kind j k es) (record { path = []; weight = times kind (one_of kind) v }) → HasEmpty es
  empty_there j k [] none = absurd none
  empty_there j k (e ∷ es) (inl f) = inl (no_letters j k e.letters (ap (λ (b : WeightedPath ℕ). b.path) f))
  empty_there j k (e ∷ es) (inr there) = inr (empty_there (j + length (first_arc k e.letters)) (k + length e.letters) es there)

  from_start : (path : List (Transition ℕ)) (q : ℕ) → IsPath (graph_of m) 0 path q → ((graph_of m).final q ≡ infinite → ⊥)
      → Has (chain_list kind 0 1 cs) (record { path = path; weight = times kind (product kind (letters path)) ((graph_of m).final q) })
  from_start [] q here final =
      let start : (graph_of m).final 0 ≡ infinite → ⊥ = λ e. final (ap (λ (p : ℕ). (graph_of m).final p) (sym here) ∙ e) in
      let listed : Has (chain_list kind 0 1 cs) (record { path = []; weight = times kind (one_of kind) v }) = empty_listed kind v infinite 0 1 cs alike refl start in
      let ends : v ≡ (graph_of m).final q = sym (final_empty v infinite cs alike (empty_there 0 1 cs listed)) ∙ ap (λ (p : ℕ). (graph_of m).final p) here in
      subst (λ (w : Cost). Has (chain_list kind 0 1 cs) (record { path = []; weight = times kind (one_of kind) w })) ends listed
  from_start (t ∷ path) q leads final =
      all_only kind m v refl 0 1 cs (stands_behind (record { final = final_of infinite cs; arcs = first_arcs 1 cs }) (all_states 1 cs)) t path q t.place leads.0.1 leads.0.0 (omega arith) leads.1 final

  all_listed : (path : List (Transition ℕ)) (w : Cost) → IsSuccessful kind (graph_of m) path w → Has (chain_list kind 0 1 cs) (record { path = path; weight = w })
  all_listed path w h =
      let first : h.first ≡ 0 = let e : Some 0 ≡ Some h.first = h.starts in cc in
      let leads : IsPath (graph_of m) 0 path h.last = subst (λ (p : ℕ). IsPath (graph_of m) p path h.last) first h.leads in
      subst (λ (z : Cost). Has (chain_list kind 0 1 cs) (record { path = path; weight = z })) (sym h.weight) (from_start path h.last leads h.final)

  some_IsChained : {N : Type 0} (listed : List (WeightedPath N)) → Fits kind listed cs → AreFinal cs → IsChained kind listed (graph_of m)
  some_IsChained listed fits final = record {
    chains = chain_list kind 0 1 cs;
    same = same_said kind 0 1 listed cs fits;
    successful = all_successful kind m v refl 0 1 cs (stands_whole (first_arcs 1 cs)) (stands_behind (record { final = final_of infinite cs; arcs = first_arcs 1 cs }) (all_states 1 cs)) alike final (final_empty v infinite cs alike);
    all = λ c h. all_listed c.path c.weight h;
    ordered = chains_ordered kind 0 1 listed cs fits;
  }

  some_say : SayChains kind cs (graph_of m)
  some_say = record {
    each = each_said kind m v refl 0 1 cs (stands_whole (first_arcs 1 cs)) (stands_behind (record { final = final_of infinite cs; arcs = first_arcs 1 cs }) (all_states 1 cs)) alike (final_empty v infinite cs alike);
    all = λ path w h. list_said kind 0 1 cs (record { path = path; weight = w }) (all_listed path w h);
  }

pub chained_IsChained : {N : Type 0} (kind : ArcType) (v : Cost) (listed : List (WeightedPath N)) (cs : List Chain) → Fits kind listed cs → EndAlike v cs → AreFinal cs → IsChained kind listed (graph_of (chained cs))
chained_IsChained kind v listed [] fits alike final = record {
  chains = [];
  same = same_said kind 0 1 listed [] fits;
  successful = λ c none. absurd none;
  all = λ c h. none_start kind (graph_of (chained [])) c.path c.weight refl h;
  ordered = λ ascends. tt;
}
chained_IsChained kind v listed (d ∷ ds) fits alike final = some_IsChained kind v d ds alike listed fits final

-- the machine of chains says them, where those without letters have one final weight
pub chained_say : (kind : ArcType) (v : Cost) (cs : List Chain) → EndAlike v cs → SayChains kind cs (graph_of (chained cs))
chained_say kind v [] alike = record { each = λ c none final. absurd none; all = λ path w h. absurd (none_start kind (graph_of (chained [])) path w refl h) }
chained_say kind v (d ∷ ds) alike = some_say kind v d ds alike

-- ---- what listed paths say

pub path_letters : {N : Type 0} (g : Graph N) (path : List (Transition N)) (p q : N) → IsPath g p path q → map (λ (s : N × ℕ). letter_of (arc_at g s)) (places path) ≡ letters path
path_letters g [] p q here = refl
path_letters {N} g (t ∷ path) p q leads = ap₂ (λ (a : Arc Cost N) (ls : List Letter). letter_of a ∷ ls) (step_is g p t leads.0) (path_letters g path t.arc.next q leads.1)
  where
    step_is : (g : Graph N) (p : N) (t : Transition N) → Leaves g p t → arc_at g (t.state, t.place) ≡ t.arc
    step_is g p t leaves = get_or_from_slice_get (g.arcs t.state) t.place t.arc (no_arc t.state) (ap (λ (n : N). slice_get (g.arcs n) t.place) leaves.0 ∙ leaves.1)

path_end : {N : Type 0} (g : Graph N) (path : List (Transition N)) (p q : N) → IsPath g p path q → end_of g p (places path) ≡ q
path_end g [] p q here = here
path_end {N} g (t ∷ path) p q leads =
    let is : arc_at g (t.state, t.place) ≡ t.arc = get_or_from_slice_get (g.arcs t.state) t.place t.arc (no_arc t.state) (ap (λ (n : N). slice_get (g.arcs n) t.place) leads.0.0 ∙ leads.0.1) in
    ap (λ (a : Arc Cost N). end_of g a.next (places path)) is ∙ path_end g path t.arc.next q leads.1

module _ {N : Type 0} (kind : ArcType) (g : Graph N) where
  -- the final weight of a successful path's end
  pub path_last : (path : List (Transition N)) (w : Cost) (h : IsSuccessful kind g path w) → last_weight g g.start (places path) ≡ g.final h.last
  path_last path w h = ap (λ (o : Option N). last_weight g o (places path)) h.starts ∙ ap (λ (q : N). g.final q) (path_end g path h.first h.last h.leads)

  -- the chains of successful paths fit them, and end as they do
  listed_fit : (listed : List (WeightedPath N)) → ((a : WeightedPath N) → Has listed a → IsSuccessful kind g a.path a.weight) → Fits kind listed (map (chain_of g) (map (λ (a : WeightedPath N). places a.path) listed))
  listed_fit [] all = tt
  listed_fit (a ∷ listed) all =
      let h = all a (inl refl) in
      let said = path_letters g a.path h.first h.last h.leads in
      (sym said, h.weight ∙ ap₂ (λ (ls : List Letter) (w : Cost). times kind (product kind ls) w) (sym said) (sym (path_last a.path a.weight h)), listed_fit listed (λ b there. all b (inr there)))

  listed_alike : (listed : List (WeightedPath N)) → EndAlike (last_weight g g.start []) (map (chain_of g) (map (λ (a : WeightedPath N). places a.path) listed))
  listed_alike [] = tt
  listed_alike (a ∷ listed) = (ends a.path, listed_alike listed)
    where
      ends : (path : List (Transition N)) → EndsAs (last_weight g g.start []) (chain_of g (places path)).letters (chain_of g (places path)).last
      ends [] = refl
      ends (t ∷ path) = tt

  listed_final : (listed : List (WeightedPath N)) → ((a : WeightedPath N) → Has listed a → IsSuccessful kind g a.path a.weight) → AreFinal (map (chain_of g) (map (λ (a : WeightedPath N). places a.path) listed))
  listed_final [] all = tt
  listed_final (a ∷ listed) all =
      let h = all a (inl refl) in
      ((λ e. h.final (sym (path_last a.path a.weight h) ∙ e)), listed_final listed (λ b there. all b (inr there)))

  -- the machine of the chains of written paths
  pub written_IsChained : (listed : List (WeightedPath N)) (walks : List (List (N × ℕ))) → IsWritten kind g listed walks → IsChained kind listed (graph_of (chained (map (chain_of g) walks)))
  written_IsChained listed walks h =
      subst (λ (ws : List (List (N × ℕ))). IsChained kind listed (graph_of (chained (map (chain_of g) ws)))) h.written
      (chained_IsChained kind (last_weight g g.start []) listed (map (chain_of g) (map (λ (a : WeightedPath N). places a.path) listed)) (listed_fit listed h.successful) (listed_alike listed)
      (listed_final listed h.successful))
