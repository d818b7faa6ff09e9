-- No word stands for two things.
use Rattle.std.proofs.Common.{⊎_elim, ◌≡◌, inl, inr, ℕ, ◌+◌, ◌<◌, ◌≤◌, List, Some, refl, sym, ap, subst, ◌∙◌, arith, Contains, slice_get, slice_index}
use Rattle.lists.proofs.ListLaws.{same_some}
use Rattle.jvm_types.specs.{ProgramInvariant.{words_of}, declared.{fixed_words.TheConstants.{FIRST_READY_WORD, NEXT_FREE_WORD}, program.Program.Program}}
use Rattle.checked_program.specs.MarkedProgram.{MarkedProgram, IsMarked}
use Rattle.machine_types.specs.{Core.Core, NewObjects.{size_by, IsNewObject}, ObjectsApart.{LieApart}, PlainMemory.{Object, object_end, start_objects, start_statics}}
use Rattle.machine_types.{specs.{StartLaws.StartLiesApart, Threads.Thread}, proofs.AttemptsPlain.size_two}
use Rattle.laws_states.specs.{HeapFacts.HeapFacts, SiteLaws.{SitesDiffer, SitesLieInside}}
use Rattle.laws_states.{specs.Sites.{Site, Counter, OwnerOf, BitsOf, LockOf, HeaderOf, ValueOf, NewHeaderOf, StaticAt, site_word, HasStatic, IsThere}, proofs.Lists.{contained_got, same_or_not}}
use Rattle.machine_types.specs.declared.phase.Phase.TheVariants as phases

-- ---- the words that belong together

pub data Block : Type 0 where
  Fixed : Block
  Old : (reference : ℕ) → Block
  New : (reference : ℕ) → Block
  Single : (word : ℕ) → Block

abbrev pub block : Site → Block
block (LockOf reference) = Old reference
block (HeaderOf reference) = Old reference
block (ValueOf reference index) = Old reference
block (NewHeaderOf reference) = New reference
block (StaticAt word) = Single word
block site = Fixed

pub record InObject (objects : List Object) (reference x : ℕ) : Type 0 where
  pub object : Object
  pub there : Contains objects object
  pub is : object.reference ≡ reference
  pub from : reference ≤ x
  pub to : x < object_end object

pub record InNew (p : Program) (s : Core) (reference x : ℕ) : Type 0 where
  pub t : ℕ
  pub thread : Thread
  pub word : ℕ
  pub there : slice_get s.threads t ≡ Some thread
  pub made : thread.phase ≡ phases.Made reference word
  pub from : reference ≤ x
  pub to : x < reference + size_by p word

abbrev pub Inside : Program → List Object → Core → Block → (x : ℕ) → Type 0
Inside p objects s Fixed x = (0 < x) × (x < FIRST_READY_WORD)
Inside p objects s (Old reference) x = InObject objects reference x
Inside p objects s (New reference) x = InNew p s reference x
Inside p objects s (Single word) x = HasStatic p word × (x ≡ word)

pub in_block : (p : Program) (objects : List Object) (s : Core) (site : Site) → IsThere p objects s site → Inside p objects s (block site) (site_word site)
in_block p objects s (Counter word) k = (omega (arith, k.0), omega (arith, k.1))
in_block p objects s (LockOf reference) k = record { object = k.0; there = k.1; is = k.2; from = omega arith; to = omega (arith, k.2) }
in_block p objects s (HeaderOf reference) k = record { object = k.0; there = k.1; is = k.2; from = omega arith; to = omega (arith, k.2) }
in_block p objects s (ValueOf reference index) k = record { object = k.0; there = k.1; is = k.2; from = omega arith; to = omega (arith, k.2, k.3) }
in_block p objects s (NewHeaderOf reference) k = record { t = k.0; thread = k.1; word = k.2; there = k.3; made = k.4; from = omega arith; to = omega (arith, size_two p k.2) }
in_block p objects s (StaticAt word) k = (k, refl)
in_block p objects s site k = (omega arith, omega (arith, k))

-- ---- blocks are apart

module _ (lies_apart : StartLiesApart) (c : MarkedProgram) (objects : List Object) (s : Core) (marked : IsMarked c) (facts : HeapFacts c objects s) where
  abbrev In : Block → ℕ → Type 0
  In b x = Inside c.program objects s b x

  open marked use {checked.program as is_program}

  pub static_low : (word : ℕ) → HasStatic c.program word → (FIRST_READY_WORD ≤ word) × (word < words_of c.program)
  static_low word k =
      let start : LieApart c.program (start_objects c.program) (start_statics c.program) (words_of c.program) = lies_apart c.program is_program in
      let there = contained_got (start_statics c.program) k.0 k.1 in
      (omega (arith, start.statics_begin k.1.0 k.0 there, k.2), omega (arith, (start.statics_below k.1.0 k.0 there).0, k.2))

  pub new_at : (reference x : ℕ) (k : InNew c.program s reference x) → IsNewObject c.program objects s reference (size_by c.program k.word)
  new_at reference x k = facts.new_objects.each k.t k.thread reference k.word k.there k.made

  old_begins : (reference x : ℕ) → InObject objects reference x → FIRST_READY_WORD ≤ x
  old_begins reference x k = omega (arith, facts.apart.begin k.there.0 k.object (contained_got objects k.object k.there), k.is, k.from)

  new_begins : (reference x : ℕ) → InNew c.program s reference x → words_of c.program ≤ x
  new_begins reference x k = omega (arith, (new_at reference x k).begins, k.from)

  old_old : (a b x : ℕ) → InObject objects a x → InObject objects b x → a ≡ b
  old_old a b x k l = elim (same_or_not k.there.0 l.there.0) [
    | inl e ↦
        sym k.is ∙ (ap (λ (o : Object). o.reference) (same_some (sym (contained_got objects k.object k.there) ∙ (ap (slice_get objects) e ∙ contained_got objects l.object l.there))) ∙ l.is)
    | inr n ↦ elim (facts.apart.beside k.there.0 l.there.0 k.object l.object (contained_got objects k.object k.there) (contained_got objects l.object l.there) n)
        [ inl h ↦ absurd (omega (arith, h, k.to, l.from, l.is)) | inr h ↦ absurd (omega (arith, h, l.to, k.from, k.is)) ]
  ]

  old_new : (a b x : ℕ) → InObject objects a x → InNew c.program s b x → ⊥
  old_new a b x k l = ⊎_elim
      (λ (h : object_end k.object ≤ b). omega (arith, h, k.to, l.from))
      (λ (h : b + size_by c.program l.word ≤ k.object.reference). omega (arith, h, l.to, k.from, k.is)) ((new_at b x l).beside k.object k.there)

  old_single : (a w x : ℕ) → InObject objects a x → HasStatic c.program w → x ≡ w → ⊥
  old_single a w x k v e = elim (facts.apart.mixed k.there.0 v.1.0 k.object v.0 (contained_got objects k.object k.there) (contained_got (start_statics c.program) v.0 v.1))
      [ inl h ↦ omega (arith, h, v.2, e, k.from, k.is) | inr h ↦ omega (arith, h, v.2, e, k.to) ]

  made_is : (x y : Thread) (a b word other : ℕ) → x ≡ y → x.phase ≡ phases.Made a word → y.phase ≡ phases.Made b other → a ≡ b
  made_is x y a b word other e h k = let same : phases.Made a word ≡ phases.Made b other = sym h ∙ (ap (λ (z : Thread). z.phase) e ∙ k) in cc

  new_new : (a b x : ℕ) → InNew c.program s a x → InNew c.program s b x → a ≡ b
  new_new a b x k l = elim (same_or_not k.t l.t) [
    | inl e ↦ made_is k.thread l.thread a b k.word l.word (same_some (sym k.there ∙ (ap (slice_get s.threads) e ∙ l.there))) k.made l.made
    | inr n ↦ ⊎_elim
        (λ (h : a + size_by c.program k.word ≤ b). absurd (omega (arith, h, k.to, l.from)))
        (λ (h : b + size_by c.program l.word ≤ a). absurd (omega (arith, h, l.to, k.from))) (facts.new_objects.apart k.t l.t k.thread l.thread a b k.word l.word k.there l.there n k.made l.made)
  ]

  pub same_block : (b d : Block) (x : ℕ) → In b x → In d x → b ≡ d
  same_block Fixed Fixed x k l = refl
  same_block Fixed (Old a) x k l = absurd (omega (arith, k.1, old_begins a x l))
  same_block Fixed (New a) x k l = absurd (omega (arith, k.1, new_begins a x l))
  same_block Fixed (Single w) x k l = absurd (omega (arith, k.1, l.1, (static_low w l.0).0))
  same_block (Old a) Fixed x k l = absurd (omega (arith, l.1, old_begins a x k))
  same_block (Old a) (Old b) x k l = ap Old (old_old a b x k l)
  same_block (Old a) (New b) x k l = absurd (old_new a b x k l)
  same_block (Old a) (Single w) x k l = absurd (old_single a w x k l.0 l.1)
  same_block (New a) Fixed x k l = absurd (omega (arith, l.1, new_begins a x k))
  same_block (New a) (Old b) x k l = absurd (old_new b a x l k)
  same_block (New a) (New b) x k l = ap New (new_new a b x k l)
  same_block (New a) (Single w) x k l = absurd (omega (arith, new_begins a x k, l.1, (static_low w l.0).1))
  same_block (Single w) Fixed x k l = absurd (omega (arith, l.1, k.1, (static_low w k.0).0))
  same_block (Single w) (Old a) x k l = absurd (old_single a w x l k.0 k.1)
  same_block (Single w) (New a) x k l = absurd (omega (arith, new_begins a x l, k.1, (static_low w k.0).1))
  same_block (Single w) (Single v) x k l = ap Single (sym k.1 ∙ l.1)

  -- ---- and so are the sites of one block

  abbrev reference_of : Block → ℕ
  reference_of (Old reference) = reference
  reference_of b = 0

  pub one_site : (site other : Site) → IsThere c.program objects s site → IsThere c.program objects s other → block site ≡ block other → site_word site ≡ site_word other → site ≡ other
  one_site (Counter w) (Counter v) k l b e = ap Counter e
  one_site (OwnerOf r) (OwnerOf q) k l b e = ap OwnerOf (omega (arith, e))
  one_site (BitsOf r) (BitsOf q) k l b e = ap BitsOf (omega (arith, e))
  one_site (LockOf x) (LockOf y) k l b e = ap LockOf e
  one_site (HeaderOf x) (HeaderOf y) k l b e = ap HeaderOf (ap reference_of b)
  one_site (ValueOf x i) (ValueOf y j) k l b e =
      let one : x ≡ y = ap reference_of b in
      ap (λ z. ValueOf z i) one ∙ ap (ValueOf y) (omega (arith, one, e))
  one_site (NewHeaderOf x) (NewHeaderOf y) k l b e = ap NewHeaderOf (omega (arith, e))
  one_site (StaticAt w) (StaticAt v) k l b e = ap StaticAt e
  one_site (Counter w) other k l b e = absurd (first_of (cc, omega (arith, k.1, e)))
  one_site site (Counter v) k l b e = absurd (first_of (cc, omega (arith, l.1, e)))
  one_site site other k l b e = absurd (first_of (cc, omega (arith, ap reference_of b, e)))

  -- ---- below the next free word

  pub block_low : (b : Block) (x : ℕ) → In b x → (0 < x) × (x < slice_index s.words NEXT_FREE_WORD) × (x < c.program.heap)
  block_low Fixed x k = (k.0, omega (arith, k.1, facts.begins), omega (arith, k.1, is_program.words))
  block_low (Old a) x k =
      let there = contained_got objects k.object k.there in
      (omega (arith, old_begins a x k), omega (arith, k.to, facts.apart.below k.there.0 k.object there), omega (arith, k.to, facts.apart.inside k.there.0 k.object there))
  block_low (New a) x k =
      let new = new_at a x k in
      (omega (arith, new.begins, k.from), omega (arith, k.to, new.below), omega (arith, k.to, new.inside))
  block_low (Single w) x k =
      let low = static_low w k.0 in
      (omega (arith, low.0, k.1), omega (arith, low.1, k.1, facts.begins), omega (arith, low.1, k.1, is_program.words))

pub sites_apart : StartLiesApart → SitesDiffer
sites_apart lies c objects s site other marked facts k l e =
    one_site lies c objects s marked facts site other k l
    (same_block lies c objects s marked facts (block site) (block other) (site_word site) (in_block c.program objects s site k) (subst (Inside c.program objects s (block other)) (sym e) (in_block c.program objects s other l))) e

pub sites_inside : StartLiesApart → SitesLieInside
sites_inside lies c objects s site marked facts k = omega (arith, (block_low lies c objects s marked facts (block site) (site_word site) (in_block c.program objects s site k)).2, facts.unused.many)
