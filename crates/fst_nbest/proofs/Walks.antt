-- A walk from an entry to the end of its best path.
use Rattle.std.proofs.Common.{◌≡◌, ◌≢◌, ◌⊎◌, inl, inr, ℕ, ◌+◌, ◌-◌, ◌<◌, ◌≤◌, zero, suc, List, [], ◌∷◌, ◌++◌, Option, None, Some, length, map, drop, take, get_or, slice_get, refl, sym, ap, ap₂, subst, ◌∙◌, true, append_assoc, append-nil, arith}
use Rattle.std.specs.List.{All}
use Rattle.std.specs.List.Sorted.{IsPermutation}
use Rattle.std.proofs.lemmas.List.{drop_more, drop_all, length-append, length-take, map-append, take-append-le, take_all, take_more}
use Rattle.std.proofs.lemmas.List.Elements.{All-append, All-cons, All-nil, All-head, All-tail, All-weaker}
use Rattle.std.proofs.lemmas.List.Sorted.{IsPermutation-cons, IsPermutation-middle, IsPermutation-sym}
use Rattle.std.proofs.lemmas.Option.{same_Some, get_or_from_slice_get, slice_get_within}
use Rattle.fst_semiring.specs.Cost.{Cost}
use Rattle.fst_semiring.specs.declared.arc_type.ArcType.{ArcType}
use Rattle.fst_semiring.specs.Semiring.{cancels, times}
use Rattle.fst_semiring.proofs.Laws.{times_assoc}
use Rattle.fst_nbest.specs.declared.entry.Entry.{Entry}
use Rattle.fst_nbest.specs.Words.{Words, WeightedWord, Ahead, ahead_of, ahead_of_step, ahead_of_stop, AreWords, IsOrder}
use Rattle.fst_nbest.specs.Families.{Family, IsCovered, IsLeading}
use Rattle.fst_nbest.specs.Entries.{list_at, most_long, move_of, prefix_of, family_at, family_of, families_on, AreOrders, IsEntry, IsLeft, IsLeftOn, OrdersGrow, Stepped, Walked}
use Rattle.fst_nbest.proofs.Sorted.{in_order_at}
use Rattle.fst_nbest.proofs.Ranks.{first_ahead}
use Rattle.fst_nbest.proofs.Peeling.{next_family, left_family, covered_empty, covered_permutation, leading_fewer, leading_permutation, step_covered, step_leading, stop_covered}

pub map_same : {X Y : Type 0} (P : X → Type 0) (f h : X → Y) (xs : List X) → ((x : X) → P x → f x ≡ h x) → All P xs → map f xs ≡ map h xs
map_same P f h [] same all = refl
map_same P f h (x ∷ xs) same all = ap₂ (◌∷◌) (same x (All-head P x xs all)) (map_same P f h xs same (All-tail P x xs all))

module _ {D : Type 0} (kind : ArcType) (g : Words ℕ) (dist : ℕ → Cost) (count : ℕ → ℕ) (value : D → Cost) (bounded : ℕ → D → Type 0) where
  -- A walk on its way: the core has the rest of the family, and leads.
  pub record WalkingOn (words old now : List (List ℕ)) (path : ℕ) (entry : Entry D) (core : Entry D) (left : List (Entry D)) (word : List ℕ) : Type 0 where
    pub orders : AreOrders kind g dist count now
    pub grow : OrdersGrow old now
    pub entries : All (IsLeftOn kind g dist count value bounded now path (length word)) left
    pub kept : IsEntry kind g dist count value bounded now core
    pub total : core.total ≡ entry.total
    pub arcs : core.arcs ≡ entry.arcs
    pub depth : core.depth ≡ length word
    pub covers : (start : ℕ) (listed : List WeightedWord) (families : List (Family ℕ)) → IsCovered kind g dist count start listed (family_of value words old entry ∷ families)
        → IsLeading kind g dist count start (family_of value words old entry) families (value entry.total) entry.arcs
        → IsCovered kind g dist count start listed (family_at value now word core ∷ (families_on kind g dist count value bounded now word left ++ families))
        × IsLeading kind g dist count start (family_at value now word core) (families_on kind g dist count value bounded now word left ++ families) (value entry.total) entry.arcs

module _ {D : Type 0} (kind : ArcType) (g : Words ℕ) (dist : ℕ → Cost) (count : ℕ → ℕ) (value : D → Cost) (bounded : ℕ → D → Type 0) (cancel : cancels kind ≡ true) (good : AreWords kind g dist count) where
  -- the moves of an entry begin with its own
  pub entry_moves : (orders : List (List ℕ)) (e : Entry D) → e.rank < length (list_at orders e.name) → drop e.rank (list_at orders e.name) ≡ move_of orders e ∷ drop (e.rank + 1) (list_at orders e.name)
  entry_moves orders e low = drop_more (list_at orders e.name) e.rank 0 low

  pub some_order : (orders : List (List ℕ)) (x k : ℕ) → k < length (list_at orders x) → list_at orders x ≢ []
  some_order orders x k low e = omega (arith, low, ap length e)

  -- a family of an entry does not change as orders are added and the word grows
  pub family_same : (old new : List (List ℕ)) (word more : List ℕ) (path n : ℕ) (e : Entry D) → OrdersGrow old new → n ≤ length word → IsLeftOn kind g dist count value bounded old path n e
      → family_at value new (take e.depth (word ++ more)) e ≡ family_at value old (take e.depth word) e
  family_same old new word more path n e grow low on =
      let order : list_at new e.name ≡ list_at old e.name = grow.same e.name (some_order old e.name e.rank on.entry.rank) in
      let prefix : take e.depth (word ++ more) ≡ take e.depth word = take-append-le e.depth word more (omega (arith, low, on.depth)) in
      ap₂ (λ (l p : List ℕ). record { prefix = p; at = e.name; front = value e.front; moves = drop e.rank l }) order prefix

  pub entry_same : (old new : List (List ℕ)) (e : Entry D) → OrdersGrow old new → IsEntry kind g dist count value bounded old e → IsEntry kind g dist count value bounded new e
  entry_same old new e grow h =
      let order : list_at new e.name ≡ list_at old e.name = grow.same e.name (some_order old e.name e.rank h.rank) in
      record {
        name = omega (arith, h.name, grow.size);
        rank = subst (λ (l : List ℕ). e.rank < length l) (sym order) h.rank;
        ahead = h.ahead;
        is = ap (λ (l : List ℕ). ahead_of kind g dist count e.name (get_or l e.rank 0)) order ∙ h.is;
        total = h.total;
        arcs = h.arcs;
        bound = h.bound;
        long = h.long;
      }

  pub left_on_same : (old new : List (List ℕ)) (path n m : ℕ) (e : Entry D) → OrdersGrow old new → n ≤ m → IsLeftOn kind g dist count value bounded old path n e → IsLeftOn kind g dist count value bounded new path m e
  left_on_same old new path n m e grow low on = record { entry = entry_same old new e grow on.entry; on = on.on; depth = omega (arith, low, on.depth) }

  pub grow_trans : (a b c : List (List ℕ)) → OrdersGrow a b → OrdersGrow b c → OrdersGrow a c
  grow_trans a b c p q = record { size = q.size ∙ p.size; same = λ x some. q.same x (λ e. some (sym (p.same x some) ∙ e)) ∙ p.same x some }

  pub walk_begins : (words orders : List (List ℕ)) (path : ℕ) (entry core : Entry D) (left : List (Entry D)) (word : List ℕ) → AreOrders kind g dist count orders → IsEntry kind g dist count value bounded orders entry → word ≡ prefix_of words entry → entry.depth ≡ length word → left ≡ [] → core ≡ entry
      → WalkingOn kind g dist count value bounded words orders orders path entry core left word
  walk_begins words orders path entry core left word sorted h is long none same =
      subst (λ (e : Entry D). WalkingOn kind g dist count value bounded words orders orders path entry e left word) (sym same)
      (subst (λ (l : List (Entry D)). WalkingOn kind g dist count value bounded words orders orders path entry entry l word) (sym none)
      (subst (λ (w : List ℕ). WalkingOn kind g dist count value bounded words orders orders path entry entry [] w) (sym is)
      (record {
        orders = sorted;
        grow = record { size = refl; same = λ x some. refl };
        entries = All-nil (IsLeftOn kind g dist count value bounded orders path (length (prefix_of words entry)));
        kept = h;
        total = refl;
        arcs = refl;
        depth = long ∙ ap length is;
        covers = λ start listed families c l. (c, l);
      })))

  -- what is left behind the first move of a core, with the families beside it
  module _ (old now : List (List ℕ)) (word after : List ℕ) (path : ℕ) (core : Entry D) (left new : List (Entry D)) (more : List ℕ) (is_after : after ≡ word ++ more) (grow : OrdersGrow old now)
      (entries : All (IsLeftOn kind g dist count value bounded old path (length word)) left) (h : IsEntry kind g dist count value bounded old core) (deep : core.depth ≡ length word)
      (put : IsLeft kind g dist count value bounded old path core left new) where
    abbrev rest : List ℕ
    rest = drop (core.rank + 1) (list_at old core.name)

    abbrev behind : Family ℕ
    behind = left_family (family_at value old word core) rest

    lefts : families_on kind g dist count value bounded now after left ≡ families_on kind g dist count value bounded old word left
    lefts = map_same (IsLeftOn kind g dist count value bounded old path (length word)) (λ (e : Entry D). family_at value now (take e.depth after) e) (λ (e : Entry D). family_at value old (take e.depth word) e) left
        (λ e on. ap (λ (w : List ℕ). family_at value now (take e.depth w) e) is_after ∙ family_same old now word more path (length word) e grow (omega arith) on) entries

    -- the entries that are left now
    pub lefts_on : (m : ℕ) → length word ≤ m → All (IsLeftOn kind g dist count value bounded now path m) new
    lefts_on m low = by put
      where
        before : All (IsLeftOn kind g dist count value bounded now path m) left
        before = All-weaker (IsLeftOn kind g dist count value bounded old path (length word)) (IsLeftOn kind g dist count value bounded now path m) (λ e on. left_on_same old now path (length word) m e grow low on) left entries

        by : IsLeft kind g dist count value bounded old path core left new → All (IsLeftOn kind g dist count value bounded now path m) new
        by (inl none) = subst (λ (l : List (Entry D)). All (IsLeftOn kind g dist count value bounded now path m) l) (sym none.0) before
        by (inr (e, is, on, depth, name, front, rank, entry)) =
            subst (λ (l : List (Entry D)). All (IsLeftOn kind g dist count value bounded now path m) l) (sym is)
            (All-append (IsLeftOn kind g dist count value bounded now path m) left (e ∷ []) before
            (All-cons (IsLeftOn kind g dist count value bounded now path m) e [] (record { entry = entry_same old now e grow entry; on = on; depth = omega (arith, depth, deep, low) }) (All-nil (IsLeftOn kind g dist count value bounded now path m))))

    -- the family that is left is the last of these, or has no moves
    left_cases : ((families : List (Family ℕ)) → IsPermutation (behind ∷ (families_on kind g dist count value bounded old word left ++ families)) (families_on kind g dist count value bounded now after new ++ families))
        ⊎ ((rest ≡ []) × (families_on kind g dist count value bounded now after new ≡ families_on kind g dist count value bounded old word left))
    left_cases = by put
      where
        by : IsLeft kind g dist count value bounded old path core left new → ((families : List (Family ℕ)) → IsPermutation (behind ∷ (families_on kind g dist count value bounded old word left ++ families)) (families_on kind g dist count value bounded now after new ++ families))
            ⊎ ((rest ≡ []) × (families_on kind g dist count value bounded now after new ≡ families_on kind g dist count value bounded old word left))
        by (inl none) = inr (drop_all (core.rank + 1) (list_at old core.name) none.1, ap (families_on kind g dist count value bounded now after) none.0 ∙ lefts)
        by (inr (e, is, on, depth, name, front, rank, entry)) = inl (λ families.
            subst (λ (fs : List (Family ℕ)). IsPermutation (behind ∷ (families_on kind g dist count value bounded old word left ++ families)) fs) (sym (whole families))
            (IsPermutation-sym (families_on kind g dist count value bounded old word left ++ (behind ∷ families)) (behind ∷ (families_on kind g dist count value bounded old word left ++ families)) (IsPermutation-middle (families_on kind g dist count value bounded old word left) behind families)))
          where
            order : list_at now e.name ≡ list_at old core.name
            order = ap (list_at now) name ∙ grow.same core.name (some_order old core.name core.rank h.rank)

            prefix : take e.depth after ≡ word
            prefix =
                let long : e.depth ≡ length word = depth ∙ deep in
                ap₂ (λ (n : ℕ) (w : List ℕ). take n w) long is_after ∙ (take-append-le (length word) word more (omega arith) ∙ take_all (length word) word (omega arith))

            one : family_at value now (take e.depth after) e ≡ behind
            one = λ i. record { prefix = prefix i; at = name i; front = value (front i); moves = drop (rank i) (order i) }

            whole : (families : List (Family ℕ)) → families_on kind g dist count value bounded now after new ++ families ≡ families_on kind g dist count value bounded old word left ++ (behind ∷ families)
            whole families =
                ap (λ (l : List (Entry D)). families_on kind g dist count value bounded now after l ++ families) is
                ∙ (ap (λ (fs : List (Family ℕ)). fs ++ families) (map-append (λ (f : Entry D). family_at value now (take f.depth after) f) left (e ∷ []) ∙ ap₂ (λ (fs : List (Family ℕ)) (f : Family ℕ). fs ++ f ∷ []) lefts one)
                ∙ append_assoc (families_on kind g dist count value bounded old word left) (behind ∷ []) families)

  -- a core's first move is a step where arcs are ahead of it, and the end where none are
  pub core_step : (orders : List (List ℕ)) (core : Entry D) → IsEntry kind g dist count value bounded orders core → core.depth < core.arcs → (k : ℕ) × (move_of orders core ≡ suc k)
  core_step orders core h more = by (move_of orders core) refl
    where
      by : (m : ℕ) → move_of orders core ≡ m → (k : ℕ) × (move_of orders core ≡ suc k)
      by (suc k) e = (k, e)
      by zero e = absurd (none (g.stop core.name) refl (ap (ahead_of kind g dist count core.name) (sym e) ∙ h.is))
        where
          none : (o : Option Cost) → g.stop core.name ≡ o → ahead_of_stop kind g dist count (g.stop core.name) ≡ Some h.ahead → ⊥
          none None f q = let r : None ≡ Some h.ahead = ap (ahead_of_stop kind g dist count) (sym f) ∙ q in cc
          none (Some v) f q =
              let r : record { total = v; arcs = 0 } ≡ h.ahead = same_Some _ h.ahead (ap (ahead_of_stop kind g dist count) (sym f) ∙ q) in
              omega (arith, ap (λ (a : Ahead). a.arcs) r, h.arcs, more)

  pub core_stop : (orders : List (List ℕ)) (core : Entry D) → IsEntry kind g dist count value bounded orders core → core.arcs ≤ core.depth → (move_of orders core ≡ 0) × ((v : Cost) × (g.stop core.name ≡ Some v))
  core_stop orders core h none = by (move_of orders core) refl
    where
      by : (m : ℕ) → move_of orders core ≡ m → (move_of orders core ≡ 0) × ((v : Cost) × (g.stop core.name ≡ Some v))
      by (suc k) e = absurd (more (g.step core.name k) refl (ap (ahead_of kind g dist count core.name) (sym e) ∙ h.is))
        where
          more : (o : Option (Cost × ℕ)) → g.step core.name k ≡ o → ahead_of_step kind g dist count (g.step core.name k) ≡ Some h.ahead → ⊥
          more None f q = let r : None ≡ Some h.ahead = ap (ahead_of_step kind g dist count) (sym f) ∙ q in cc
          more (Some s) f q =
              let r : record { total = times kind s.0 (dist s.1); arcs = suc (count s.1) } ≡ h.ahead = same_Some _ h.ahead (ap (ahead_of_step kind g dist count) (sym f) ∙ q) in
              omega (arith, ap (λ (a : Ahead). a.arcs) r, h.arcs, none)
      by zero e = (e, last (g.stop core.name) refl (ap (ahead_of kind g dist count core.name) (sym e) ∙ h.is))
        where
          last : (o : Option Cost) → g.stop core.name ≡ o → ahead_of_stop kind g dist count (g.stop core.name) ≡ Some h.ahead → (v : Cost) × (g.stop core.name ≡ Some v)
          last None f q = absurd (let r : None ≡ Some h.ahead = ap (ahead_of_stop kind g dist count) (sym f) ∙ q in cc)
          last (Some v) f q = (v, f)

  -- one step of the walk
  module _ (words first old now : List (List ℕ)) (path : ℕ) (entry core next : Entry D) (left new : List (Entry D)) (word after : List ℕ) (w : WalkingOn kind g dist count value bounded words first old path entry core left word)
      (put : IsLeft kind g dist count value bounded old path core left new) (s : Stepped kind g dist count value bounded old now word after core next) where
    core_is : Family ℕ
    core_is = family_at value old word core

    moves_are : drop core.rank (list_at old core.name) ≡ suc s.place ∷ drop (core.rank + 1) (list_at old core.name)
    moves_are = entry_moves old core w.kept.rank ∙ ap (λ (m : ℕ). m ∷ drop (core.rank + 1) (list_at old core.name)) (s.move ∙ omega arith)

    next_order : IsOrder kind g dist count next.name (list_at now next.name)
    next_order = s.orders next.name (some_order now next.name next.rank s.entry.rank)

    -- the family of the next entry
    next_is : next_family kind (family_at value old word core) s.place s.weight next.name (list_at now next.name) ≡ family_at value now after next
    next_is = λ i. record { prefix = sym s.word i; at = next.name; front = sym s.front i; moves = begins i }
      where
        begins : list_at now next.name ≡ drop next.rank (list_at now next.name)
        begins = sym (ap (λ (n : ℕ). drop n (list_at now next.name)) s.rank)

    next_moves : list_at now next.name ≡ move_of now next ∷ drop (next.rank + 1) (list_at now next.name)
    next_moves = ap (λ (n : ℕ). drop n (list_at now next.name)) (sym s.rank) ∙ entry_moves now next s.entry.rank

    pub walk_on : WalkingOn kind g dist count value bounded words first now path entry next new after
    walk_on = record {
      orders = s.orders;
      grow = grow_trans first old now w.grow s.grow;
      entries = lefts_on old now word after path core left new (s.place ∷ []) s.word s.grow w.entries w.kept w.depth put (length after) (omega (arith, ap length s.word, length-append word (s.place ∷ [])));
      kept = s.entry;
      total = s.total ∙ w.total;
      arcs = s.arcs ∙ w.arcs;
      depth = omega (arith, s.depth, w.depth, ap length s.word, length-append word (s.place ∷ []));
      covers = covers;
    }
      where
        covers : (start : ℕ) (listed : List WeightedWord) (families : List (Family ℕ)) → IsCovered kind g dist count start listed (family_of value words first entry ∷ families)
            → IsLeading kind g dist count start (family_of value words first entry) families (value entry.total) entry.arcs
            → IsCovered kind g dist count start listed (family_at value now after next ∷ (families_on kind g dist count value bounded now after new ++ families))
            × IsLeading kind g dist count start (family_at value now after next) (families_on kind g dist count value bounded now after new ++ families) (value entry.total) entry.arcs
        covers start listed families c l = by (left_cases old now word after path core left new (s.place ∷ []) s.word s.grow w.entries w.kept w.depth put) (w.covers start listed families c l)
          where
            by : ((fs : List (Family ℕ)) → IsPermutation (behind old now word after path core left new (s.place ∷ []) s.word s.grow w.entries w.kept w.depth put ∷ (families_on kind g dist count value bounded old word left ++ fs)) (families_on kind g dist count value bounded now after new ++ fs))
                ⊎ ((rest old now word after path core left new (s.place ∷ []) s.word s.grow w.entries w.kept w.depth put ≡ []) × (families_on kind g dist count value bounded now after new ≡ families_on kind g dist count value bounded old word left))
                → IsCovered kind g dist count start listed (family_at value old word core ∷ (families_on kind g dist count value bounded old word left ++ families)) × IsLeading kind g dist count start (family_at value old word core) (families_on kind g dist count value bounded old word left ++ families) (value entry.total) entry.arcs
                → IsCovered kind g dist count start listed (family_at value now after next ∷ (families_on kind g dist count value bounded now after new ++ families))
                × IsLeading kind g dist count start (family_at value now after next) (families_on kind g dist count value bounded now after new ++ families) (value entry.total) entry.arcs
            by cases (c, l) = finish cases
              where
                covered : IsCovered kind g dist count start listed (next_family kind (family_at value old word core) s.place s.weight next.name (list_at now next.name) ∷ (left_family (family_at value old word core) (drop (core.rank + 1) (list_at old core.name)) ∷ (families_on kind g dist count value bounded old word left ++ families)))
                covered = step_covered kind g dist count start cancel good listed (family_at value old word core) (families_on kind g dist count value bounded old word left ++ families) s.place (drop (core.rank + 1) (list_at old core.name)) s.weight next.name (list_at now next.name) c moves_are s.step next_order

                leading : IsLeading kind g dist count start (next_family kind (family_at value old word core) s.place s.weight next.name (list_at now next.name)) (left_family (family_at value old word core) (drop (core.rank + 1) (list_at old core.name)) ∷ (families_on kind g dist count value bounded old word left ++ families)) (value entry.total) entry.arcs
                leading = step_leading kind g dist count start cancel good listed (family_at value old word core) (families_on kind g dist count value bounded old word left ++ families) s.place (drop (core.rank + 1) (list_at old core.name)) s.weight next.name (list_at now next.name) c moves_are s.step next_order (value entry.total) entry.arcs l
                    (move_of now next) (drop (next.rank + 1) (list_at now next.name)) next_moves s.entry.ahead s.entry.is

                finish : ((fs : List (Family ℕ)) → IsPermutation (left_family (family_at value old word core) (drop (core.rank + 1) (list_at old core.name)) ∷ (families_on kind g dist count value bounded old word left ++ fs)) (families_on kind g dist count value bounded now after new ++ fs))
                    ⊎ ((drop (core.rank + 1) (list_at old core.name) ≡ []) × (families_on kind g dist count value bounded now after new ≡ families_on kind g dist count value bounded old word left))
                    → IsCovered kind g dist count start listed (family_at value now after next ∷ (families_on kind g dist count value bounded now after new ++ families))
                    × IsLeading kind g dist count start (family_at value now after next) (families_on kind g dist count value bounded now after new ++ families) (value entry.total) entry.arcs
                finish (inl same) = (
                  covered_permutation kind g dist count start listed (family_at value now after next ∷ (left_family (family_at value old word core) (drop (core.rank + 1) (list_at old core.name)) ∷ (families_on kind g dist count value bounded old word left ++ families)))
                      (family_at value now after next ∷ (families_on kind g dist count value bounded now after new ++ families)) (IsPermutation-cons (family_at value now after next) _ (families_on kind g dist count value bounded now after new ++ families) (same families))
                      (subst (λ (f : Family ℕ). IsCovered kind g dist count start listed (f ∷ (left_family (family_at value old word core) (drop (core.rank + 1) (list_at old core.name)) ∷ (families_on kind g dist count value bounded old word left ++ families)))) next_is covered),
                  leading_permutation kind g dist count start (family_at value now after next) (left_family (family_at value old word core) (drop (core.rank + 1) (list_at old core.name)) ∷ (families_on kind g dist count value bounded old word left ++ families))
                      (families_on kind g dist count value bounded now after new ++ families) (value entry.total) entry.arcs (same families)
                      (subst (λ (f : Family ℕ). IsLeading kind g dist count start f (left_family (family_at value old word core) (drop (core.rank + 1) (list_at old core.name)) ∷ (families_on kind g dist count value bounded old word left ++ families)) (value entry.total) entry.arcs) next_is leading),
                )
                finish (inr (none, same)) = (
                  subst (λ (fs : List (Family ℕ)). IsCovered kind g dist count start listed (family_at value now after next ∷ (fs ++ families))) (sym same)
                      (covered_empty kind g dist count start listed (left_family (family_at value old word core) (drop (core.rank + 1) (list_at old core.name))) (family_at value now after next ∷ (families_on kind g dist count value bounded old word left ++ families)) none
                      (covered_permutation kind g dist count start listed (family_at value now after next ∷ (left_family (family_at value old word core) (drop (core.rank + 1) (list_at old core.name)) ∷ (families_on kind g dist count value bounded old word left ++ families)))
                      (left_family (family_at value old word core) (drop (core.rank + 1) (list_at old core.name)) ∷ (family_at value now after next ∷ (families_on kind g dist count value bounded old word left ++ families)))
                      (IsPermutation-middle (family_at value now after next ∷ []) (left_family (family_at value old word core) (drop (core.rank + 1) (list_at old core.name))) (families_on kind g dist count value bounded old word left ++ families))
                      (subst (λ (f : Family ℕ). IsCovered kind g dist count start listed (f ∷ (left_family (family_at value old word core) (drop (core.rank + 1) (list_at old core.name)) ∷ (families_on kind g dist count value bounded old word left ++ families)))) next_is covered))),
                  subst (λ (fs : List (Family ℕ)). IsLeading kind g dist count start (family_at value now after next) (fs ++ families) (value entry.total) entry.arcs) (sym same)
                      (leading_fewer kind g dist count start (family_at value now after next) (left_family (family_at value old word core) (drop (core.rank + 1) (list_at old core.name)) ∷ (families_on kind g dist count value bounded old word left ++ families)) (families_on kind g dist count value bounded old word left ++ families) (value entry.total) entry.arcs (λ f there. inr there)
                      (subst (λ (f : Family ℕ). IsLeading kind g dist count start f (left_family (family_at value old word core) (drop (core.rank + 1) (list_at old core.name)) ∷ (families_on kind g dist count value bounded old word left ++ families)) (value entry.total) entry.arcs) next_is leading)),
                )

  -- the walk ends
  module _ (words first old : List (List ℕ)) (path : ℕ) (entry core : Entry D) (left new : List (Entry D)) (word : List ℕ) (w : WalkingOn kind g dist count value bounded words first old path entry core left word)
      (put : IsLeft kind g dist count value bounded old path core left new) (none : core.arcs ≤ core.depth) where
    stays : OrdersGrow old old
    stays = record { size = refl; same = λ x some. refl }

    same_word : word ≡ word ++ []
    same_word = sym (append-nil word)

    ends_moves : drop core.rank (list_at old core.name) ≡ 0 ∷ drop (core.rank + 1) (list_at old core.name)
    ends_moves = entry_moves old core w.kept.rank ∙ ap (λ (m : ℕ). m ∷ drop (core.rank + 1) (list_at old core.name)) (core_stop old core w.kept none).0

    pub walk_ends : Walked kind g dist count value bounded words first old path entry new word
    walk_ends = record {
      orders = w.orders;
      grow = w.grow;
      left = lefts_on old old word word path core left new [] same_word stays w.entries w.kept w.depth put (length word) (omega arith);
      long = omega (arith, w.kept.arcs, w.depth, w.arcs, none);
      covers = covers;
    }
      where
        covers : (start : ℕ) (listed : List WeightedWord) (families : List (Family ℕ)) → IsCovered kind g dist count start listed (family_of value words first entry ∷ families)
            → IsLeading kind g dist count start (family_of value words first entry) families (value entry.total) entry.arcs
            → IsCovered kind g dist count start (listed ++ record { word = word; weight = value entry.total } ∷ []) (families_on kind g dist count value bounded old word new ++ families)
        covers start listed families c l = by (left_cases old old word word path core left new [] same_word stays w.entries w.kept w.depth put) (w.covers start listed families c l)
          where
            by : ((fs : List (Family ℕ)) → IsPermutation (left_family (family_at value old word core) (drop (core.rank + 1) (list_at old core.name)) ∷ (families_on kind g dist count value bounded old word left ++ fs)) (families_on kind g dist count value bounded old word new ++ fs))
                ⊎ ((drop (core.rank + 1) (list_at old core.name) ≡ []) × (families_on kind g dist count value bounded old word new ≡ families_on kind g dist count value bounded old word left))
                → IsCovered kind g dist count start listed (family_at value old word core ∷ (families_on kind g dist count value bounded old word left ++ families)) × IsLeading kind g dist count start (family_at value old word core) (families_on kind g dist count value bounded old word left ++ families) (value entry.total) entry.arcs
                → IsCovered kind g dist count start (listed ++ record { word = word; weight = value entry.total } ∷ []) (families_on kind g dist count value bounded old word new ++ families)
            by cases (c, l) = finish cases
              where
                ended : IsCovered kind g dist count start (listed ++ record { word = word; weight = value entry.total } ∷ []) (left_family (family_at value old word core) (drop (core.rank + 1) (list_at old core.name)) ∷ (families_on kind g dist count value bounded old word left ++ families))
                ended =
                    let stop = (core_stop old core w.kept none).1 in
                    stop_covered kind g dist count start cancel good listed (family_at value old word core) (families_on kind g dist count value bounded old word left ++ families) (drop (core.rank + 1) (list_at old core.name)) stop.0 c ends_moves stop.1 (value entry.total) entry.arcs l

                finish : ((fs : List (Family ℕ)) → IsPermutation (left_family (family_at value old word core) (drop (core.rank + 1) (list_at old core.name)) ∷ (families_on kind g dist count value bounded old word left ++ fs)) (families_on kind g dist count value bounded old word new ++ fs))
                    ⊎ ((drop (core.rank + 1) (list_at old core.name) ≡ []) × (families_on kind g dist count value bounded old word new ≡ families_on kind g dist count value bounded old word left))
                    → IsCovered kind g dist count start (listed ++ record { word = word; weight = value entry.total } ∷ []) (families_on kind g dist count value bounded old word new ++ families)
                finish (inl same) = covered_permutation kind g dist count start (listed ++ record { word = word; weight = value entry.total } ∷ []) _ (families_on kind g dist count value bounded old word new ++ families) (same families) ended
                finish (inr (empty, same)) =
                    subst (λ (fs : List (Family ℕ)). IsCovered kind g dist count start (listed ++ record { word = word; weight = value entry.total } ∷ []) (fs ++ families)) (sym same)
                    (covered_empty kind g dist count start (listed ++ record { word = word; weight = value entry.total } ∷ []) _ (families_on kind g dist count value bounded old word left ++ families) empty ended)

  -- the entry behind a step
  pub stepped : (old now : List (List ℕ)) (before after : List ℕ) (core : Entry D) (f : D) (y place : ℕ) (w : Cost) → IsEntry kind g dist count value bounded old core → core.depth < core.arcs → core.depth < most_long
      → place ≡ move_of old core - 1 → g.step core.name place ≡ Some (w, y) → value f ≡ times kind (value core.front) w → AreOrders kind g dist count now → OrdersGrow old now → list_at now y ≢ [] → y < length now
      → after ≡ before ++ place ∷ [] → bounded (core.depth + 1) f
      → Stepped kind g dist count value bounded old now before after core (record { total = core.total; front = f; arcs = core.arcs; path = core.path; depth = core.depth + 1; name = y; rank = 0 })
  stepped old now before after core f y place w h more few place_is step front orders grow some low word bound = record {
    place = place;
    weight = w;
    move = omega (arith, turn.1, place_is);
    step = step;
    front = front;
    word = word;
    depth = refl;
    rank = refl;
    total = refl;
    arcs = refl;
    orders = orders;
    grow = grow;
    entry = record {
      name = low;
      rank = filled (list_at now y) some;
      ahead = there.0;
      is = there.1;
      total = h.total ∙ (ap (λ (a : Ahead). times kind (value core.front) a.total) (sym ahead_is) ∙ (sym (times_assoc kind (value core.front) w (dist y)) ∙ ap₂ (times kind) (sym front) (sym best.0)));
      arcs = omega (arith, h.arcs, ap (λ (a : Ahead). a.arcs) ahead_is, best.1);
      bound = bound;
      long = omega (arith, few);
    };
  }
    where
      turn : (k : ℕ) × (move_of old core ≡ suc k)
      turn = core_step old core h more

      filled : (l : List ℕ) → l ≢ [] → 0 < length l
      filled [] none = absurd (none refl)
      filled (m ∷ l) none = omega arith

      place_turn : suc place ≡ move_of old core
      place_turn = omega (arith, turn.1, place_is)

      ahead_is : record { total = times kind w (dist y); arcs = suc (count y) } ≡ h.ahead
      ahead_is = same_Some _ h.ahead (sym (ap (ahead_of_step kind g dist count) step) ∙ (ap (ahead_of kind g dist count core.name) place_turn ∙ h.is))

      there : (e : Ahead) × (ahead_of kind g dist count y (get_or (list_at now y) 0 0) ≡ Some e)
      there = in_order_at kind g dist count y (list_at now y) 0 (orders y some).ordered (filled (list_at now y) some)

      first_of : (l : List ℕ) → l ≢ [] → IsOrder kind g dist count y l → (e : Ahead) → ahead_of kind g dist count y (get_or l 0 0) ≡ Some e → (e.total ≡ dist y) × (e.arcs ≡ count y)
      first_of [] none order e is = absurd (none refl)
      first_of (m ∷ l) none order e is = first_ahead kind g dist count cancel good y m l (dist y) (count y) e (good.ahead core.name y place w step) order is

      best : (there.0.total ≡ dist y) × (there.0.arcs ≡ count y)
      best = first_of (list_at now y) some (orders y some) there.0 there.1

-- one more place of a listed word is copied
pub begun_more : (listed : List (List ℕ)) (path i : ℕ) (before word new : List ℕ) (k : ℕ) → slice_get listed path ≡ Some before → slice_get before i ≡ Some k → new ≡ word ++ k ∷ [] → word ≡ take i (list_at listed path) → new ≡ take (i + 1) (list_at listed path)
begun_more listed path i before word new k there here put so_far =
    let whole : list_at listed path ≡ before = get_or_from_slice_get listed path before [] there in
    let more : take (i + 1) before ≡ take i before ++ k ∷ [] = take_more before i k (slice_get_within before i k here) ∙ ap (λ (p : ℕ). take i before ++ p ∷ []) (get_or_from_slice_get before i k k here) in
    put ∙ (ap (λ (l : List ℕ). l ++ k ∷ []) (so_far ∙ ap (take i) whole) ∙ (sym more ∙ ap (take (i + 1)) (sym whole)))

pub begun_long : (l : List ℕ) (n : ℕ) (word : List ℕ) → n ≤ length l → word ≡ take n l → n ≡ length word
begun_long l n word low is = sym (ap length is ∙ (length-take n l ∙ omega (arith, low)))
