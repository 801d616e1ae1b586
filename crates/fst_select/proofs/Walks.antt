-- A walk from an entry to the end of its best string.
use Rattle.std.proofs.Common.{◌≡◌, ◌⊎◌, inl, inr, ℕ, ◌+◌, ◌-◌, ◌<◌, ◌≤◌, suc, Bool, true, false, List, [], ◌∷◌, ◌++◌, Some, length, slice_get, take, refl, sym, ap, subst, ◌∙◌, append_assoc, append-nil, arith}
use Rattle.std.proofs.lemmas.List.{get_or_push, length-append, take_all}
use Rattle.std.specs.List.{All}
use Rattle.std.specs.List.Sorted.{IsPermutation}
use Rattle.std.specs.Ordering.{is_gt}
use Rattle.std.proofs.lemmas.List.Sorted.{IsPermutation-append_comm, IsPermutation-append_left, IsPermutation-cons}
use Rattle.fst_semiring.specs.Cost.{Cost}
use Rattle.fst_semiring.specs.declared.arc_type.ArcType.{ArcType}
use Rattle.fst_machine.specs.BreadthFirst.{Has}
use Rattle.fst_machine.specs.Cycles.{IsAccessible}
use Rattle.fst_machine.specs.Distance.{IsFinalDistance}
use Rattle.fst_machine.specs.Graph.{Graph}
use Rattle.fst_determinize.specs.Subsets.{IsSubset, Member}
use Rattle.fst_trim.specs.Weighed.{IsWeighted}
use Rattle.fst_trim.specs.WordWeights.{WordWeighs}
use Rattle.fst_nbest.specs.Entries.{list_at, most_long}
use Rattle.fst_nbest.specs.Words.{WeightedWord}
use Rattle.fst_select.specs.declared.entry.Entry.{Entry}
use Rattle.fst_select.specs.Entries.{AreEntries, IsEntry, front_of, prefix_of, sibling_cmp, tail_of}
use Rattle.fst_select.specs.Frontier.{ComesFirst, CoversBy, Front, IsFrontier, IsKey, IsParted}
use Rattle.fst_select.specs.Outlook.{IsDue}
use Rattle.fst_select.specs.Searching.{Walked}
use Rattle.fst_select.specs.Parting.{AreParts, IsClosedPart, IsOpenPart}
use Rattle.fst_select.specs.Strings.{IsPlain, IsSpelled}
use Rattle.fst_select.proofs.EntryLists.{entries_append, entries_more, entries_on}
use Rattle.fst_select.proofs.Frontiers.{lists_closed, parts_open}
use Rattle.fst_select.proofs.Parted.{parted, prefix_of_part, tail_is}
use Rattle.fst_select.proofs.Reorders.{frontier_permuted}
use Rattle.fst_select.proofs.SearchFronts.{spelled_once}
use Rattle.fst_nbest.proofs.Covering.{Has-permutation}

-- what is left to do of a walk: labels, and the end
abbrev pub labels_left : Bool → ℕ → ℕ → ℕ
labels_left true long n = 0
labels_left false long n = long + 1 - n

-- a step leaves less to do
pub labels_less : (b c : Bool) (long more n m : ℕ) → c ≡ false → n ≤ long → more ≡ long → (b ≡ false → n < m) → suc (labels_left b more m) ≤ labels_left c long n
labels_less b true long more n m is_open low same longer = absurd (let wrong : true ≡ false = is_open in cc)
labels_less true false long more n m is_open low same longer = omega (arith, low)
labels_less false false long more n m is_open low same longer = let longer_now = longer refl in omega (arith, low, same, longer_now)

module _ {D : Type 0} (kind : ArcType) (g : Graph ℕ) (value : D → Cost) (due : Cost) where
  -- the front of an entry whose prefix is this word
  abbrev pub front_at : List ℕ → Entry D → Front
  front_at word e = record { prefix = word; closed = e.closed; total = value e.total; long = e.long }

  -- A walk on its way: the core has the best string of the entry, and with the entries that are left all strings of it.
  pub record IsWalking (words : List (List ℕ)) (old now : List (List Member)) (entry core : Entry D) (left : List (Entry D)) (word : List ℕ) : Type 0 where
    pub more : List (List Member)
    pub grow : now ≡ old ++ more
    pub total : value core.total ≡ value entry.total
    pub long : core.long ≡ entry.long
    pub subset : core.closed ≡ false → (s : List Member) × (slice_get now core.slot ≡ Some s) × IsSubset kind g word (value core.by) s
    pub key : IsKey (IsSpelled kind g) (front_at word core)
    pub fronts : List Front
    pub entries : AreEntries kind g value due (words ++ word ∷ []) now left fronts
    pub covers : (listed : List WeightedWord) (es : List Front) → IsFrontier (IsSpelled kind g) listed (front_of value words entry ∷ es)
        → ComesFirst (front_of value words entry) es → IsFrontier (IsSpelled kind g) listed (front_at word core ∷ (fronts ++ es)) × ComesFirst (front_at word core) (fronts ++ es)

  -- The parts of a prefix, of which one was taken that comes first.
  pub record IsTakenApart (words : List (List ℕ)) (now : List (List Member)) (core : Entry D) (word : List ℕ) (first : Entry D) (others : List (Entry D)) : Type 0 where
    pub subset : first.closed ≡ false → (s : List Member) × (slice_get now first.slot ≡ Some s) × IsSubset kind g (word ++ tail_of first.tail) (value first.by) s
    pub label : first.closed ≡ false → length (tail_of first.tail) ≡ 1
    pub fronts : List Front
    pub entries : AreEntries kind g value due (words ++ word ∷ []) now others fronts
    pub parted : IsParted (IsSpelled kind g) (front_at word core) (front_at (word ++ tail_of first.tail) first) fronts

  pub walk_begins : (words : List (List ℕ)) (subsets : List (List Member)) (entry : Entry D) (left : List (Entry D)) (word : List ℕ)
      → IsEntry kind g value due words subsets entry (front_of value words entry) → IsKey (IsSpelled kind g) (front_of value words entry)
      → word ≡ prefix_of words entry → left ≡ [] → IsWalking words subsets subsets entry entry left word
  walk_begins words subsets entry left word is key same none =
      subst (λ (l : List (Entry D)). IsWalking words subsets subsets entry entry l word) (sym none)
      (subst (λ (w : List ℕ). IsWalking words subsets subsets entry entry [] w) (sym same)
      (record {
        more = [];
        grow = sym (append-nil subsets);
        total = refl;
        long = refl;
        subset = is.subset;
        key = key;
        fronts = [];
        entries = tt;
        covers = λ listed es f c. (f, c);
      }))

  -- what a walk leaves may stand in another order
  turned : (fs ls es : List Front) → IsPermutation (fs ++ (ls ++ es)) ((ls ++ fs) ++ es)
  turned fs ls es =
      subst (λ (xs : List Front). IsPermutation xs ((ls ++ fs) ++ es)) (append_assoc fs ls es)
      (IsPermutation-append_left es (fs ++ ls) (ls ++ fs) (IsPermutation-append_comm fs ls))

  -- one step of a walk
  pub walk_on : (words : List (List ℕ)) (old now new : List (List Member)) (entry core first : Entry D) (left others both : List (Entry D)) (word after : List ℕ) (some : List (List Member))
      → IsWalking words old now entry core left word → new ≡ now ++ some → IsTakenApart words new core word first others → after ≡ word ++ tail_of first.tail → both ≡ left ++ others
      → IsWalking words old new entry first both after
  walk_on words old now new entry core first left others both word after some w grow p is_after is_both =
      subst (λ (l : List (Entry D)). IsWalking words old new entry first l after) (sym is_both)
      (subst (λ (x : List ℕ). IsWalking words old new entry first (left ++ others) x) (sym is_after) next)
    where
      old_entries : AreEntries kind g value due (words ++ (word ++ tail_of first.tail) ∷ []) new left w.fronts
      old_entries = entries_on kind g value due words word (tail_of first.tail) new left w.fronts
          (subst (λ (ss : List (List Member)). AreEntries kind g value due (words ++ word ∷ []) ss left w.fronts) (sym grow)
          (entries_more kind g value due (words ++ word ∷ []) now some left w.fronts w.entries))

      new_entries : AreEntries kind g value due (words ++ (word ++ tail_of first.tail) ∷ []) new others p.fronts
      new_entries = entries_on kind g value due words word (tail_of first.tail) new others p.fronts p.entries

      covers : (listed : List WeightedWord) (es : List Front) → IsFrontier (IsSpelled kind g) listed (front_of value words entry ∷ es)
          → ComesFirst (front_of value words entry) es
          → IsFrontier (IsSpelled kind g) listed (front_at (word ++ tail_of first.tail) first ∷ ((w.fronts ++ p.fronts) ++ es)) × ComesFirst (front_at (word ++ tail_of first.tail) first) ((w.fronts ++ p.fronts) ++ es)
      covers listed es f c =
          let before = w.covers listed es f c in
          let parts = parts_open (IsSpelled kind g) listed (front_at word core) (w.fronts ++ es) (front_at (word ++ tail_of first.tail) first) p.fronts before.0 before.1 p.parted in
          let moved = turned p.fronts w.fronts es in (
            frontier_permuted (IsSpelled kind g) listed (front_at (word ++ tail_of first.tail) first ∷ (p.fronts ++ (w.fronts ++ es))) (front_at (word ++ tail_of first.tail) first ∷ ((w.fronts ++ p.fronts) ++ es))
                (IsPermutation-cons (front_at (word ++ tail_of first.tail) first) (p.fronts ++ (w.fronts ++ es)) ((w.fronts ++ p.fronts) ++ es) moved) parts.0,
            λ f there. parts.1 f (Has-permutation (p.fronts ++ (w.fronts ++ es)) ((w.fronts ++ p.fronts) ++ es) f moved there),
          )

      next : IsWalking words old new entry first (left ++ others) (word ++ tail_of first.tail)
      next = record {
        more = w.more ++ some;
        grow = grow ∙ (ap (λ (ss : List (List Member)). ss ++ some) w.grow ∙ append_assoc old w.more some);
        total = p.parted.total ∙ w.total;
        long = p.parted.long ∙ w.long;
        subset = p.subset;
        key = p.parted.keys (front_at (word ++ tail_of first.tail) first) (inl refl);
        fronts = w.fronts ++ p.fronts;
        entries = entries_append kind g value due (words ++ (word ++ tail_of first.tail) ∷ []) new left others w.fronts p.fronts old_entries new_entries;
        covers = covers;
      }

  -- a walk at its end
  pub walk_ends : (words : List (List ℕ)) (old now : List (List Member)) (entry core : Entry D) (left : List (Entry D)) (word : List ℕ)
      → IsWalking words old now entry core left word → core.closed ≡ true → Walked kind g value due words old now entry left (record { word = word; weight = value core.total })
  walk_ends words old now entry core left word w closed = record {
    more = w.more;
    grow = w.grow;
    total = w.total;
    fronts = w.fronts;
    entries = w.entries;
    covers = λ listed es f c.
        let before = w.covers listed es f c in
        lists_closed (IsSpelled kind g) (spelled_once kind g) listed (front_at word core) (w.fronts ++ es) closed before.0 before.1;
  }

  -- an open prefix is no (word ++ tail_of first.tail) than its best string
  pub walk_long : (words : List (List ℕ)) (old now : List (List Member)) (entry core : Entry D) (left : List (Entry D)) (word : List ℕ)
      → IsWalking words old now entry core left word → length word ≤ core.long
  walk_long words old now entry core left word w = by core.closed refl
    where
      by : (b : Bool) → core.closed ≡ b → length word ≤ core.long
      by true e =
          let same : w.key.word ≡ word = subst (λ (c : Bool). CoversBy c word w.key.word) e w.key.inside in
          omega (arith, ap length same, w.key.long)
      by false e =
          let more : (rest : List ℕ) × (w.key.word ≡ word ++ rest) = subst (λ (c : Bool). CoversBy c word w.key.word) e w.key.inside in
          omega (arith, ap length more.1, length-append word more.0, w.key.long)

  -- some part is there, since the front has a best string
  pub some_part : (d : ℕ → Cost) (x : List ℕ) (owner depth : ℕ) (subsets : List (List Member)) (parts : List (Entry D)) (core : Entry D)
      → AreParts kind g d due value x owner depth subsets parts → core.closed ≡ false → IsKey (IsSpelled kind g) (front_at x core) → 0 < length parts
  some_part d x owner depth subsets parts core h is_open key = by behind.0 behind.1
    where
      behind : (rest : List ℕ) × (key.word ≡ x ++ rest)
      behind = subst (λ (b : Bool). CoversBy b x key.word) is_open key.inside

      there : (es : List (Entry D)) (e : Entry D) → Has es e → 0 < length es
      there [] e none = absurd none
      there (k ∷ es) e has = omega arith

      by : (rest : List ℕ) → key.word ≡ x ++ rest → 0 < length parts
      by [] same =
          let e = h.stops (value core.total) (subst (λ (y : List ℕ). WordWeighs kind g y (value core.total)) (same ∙ append-nil x) key.weighs.0) in
          there parts e.0 e.1
      by (label ∷ rest) same =
          let e = h.goes label rest (value core.total) (subst (λ (y : List ℕ). WordWeighs kind g y (value core.total)) same key.weighs.0) in
          there parts e.0 e.1

  -- the parts of a prefix, of which one that comes first was taken
  pub taken_apart : IsWeighted kind g → IsPlain g → (d : ℕ → Cost) → ((q : ℕ) → IsAccessible g q → IsFinalDistance kind g q (d q)) → (words : List (List ℕ)) (now : List (List Member)) (core first : Entry D)
      (word : List ℕ) (parts others : List (Entry D)) → AreParts kind g d due value word (length words) (length word) now parts → length word ≤ most_long → core.closed ≡ false
      → IsKey (IsSpelled kind g) (front_at word core) → IsDue kind due (value core.total) → IsPermutation parts (first ∷ others) → All (λ e. is_gt (sibling_cmp value first e) ≡ false) others
      → IsTakenApart words now core word first others
  taken_apart weighted plain d far words now core first word parts others h few is_open key ready moved least =
      let own : list_at (words ++ word ∷ []) (length words) ≡ word = get_or_push words word [] (length words) refl in
      let begins : take (length word) (list_at (words ++ word ∷ []) (length words)) ≡ word = ap (take (length word)) own ∙ take_all (length word) word (omega arith) in
      let within : length word ≤ length (list_at (words ++ word ∷ []) (length words)) = omega (arith, ap length own) in
      let p = parted kind g weighted plain d far due value word (length words) (length word) (words ++ word ∷ []) now parts h refl few begins within (front_at word core) refl is_open key ready first others moved least in
      let there : Has parts first = Has-permutation parts (first ∷ others) first moved (inl refl) in
      let same : prefix_of (words ++ word ∷ []) first ≡ word ++ tail_of first.tail
      = prefix_of_part kind g weighted plain d far due value word (length words) (length word) (words ++ word ∷ []) now parts h refl few begins within first there in
      record {
        subset = λ open_one. let s = p.first.subset open_one in (s.0, s.1, subst (λ (x : List ℕ). IsSubset kind g x (value first.by) s.0) same s.2);
        label = λ open_one. by_part begins within open_one (h.each first there);
        fronts = p.fronts;
        entries = p.entries;
        parted = subst (λ (x : List ℕ). IsParted (IsSpelled kind g) (front_at word core) (record { prefix = x; closed = first.closed; total = value first.total; long = first.long }) p.fronts) same p.parted;
      }
    where
      by_part : take (length word) (list_at (words ++ word ∷ []) (length words)) ≡ word → length word ≤ length (list_at (words ++ word ∷ []) (length words)) → first.closed ≡ false
          → IsClosedPart kind g value h.by h.members (length words) (length word) first ⊎ IsOpenPart kind g d due value word (length words) (length word) now first → length (tail_of first.tail) ≡ 1
      by_part begins within open_one (inl c) = absurd (let wrong : true ≡ false = sym c.closed ∙ open_one in cc)
      by_part begins within open_one (inr o) = ap length (tail_is kind g weighted plain d far due value word (length words) (length word) (words ++ word ∷ []) now parts h refl few begins within first o)
