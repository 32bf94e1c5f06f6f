-- What a crash leaves after device calls, one behind the other.
use Rattle.std.proofs.Common.{◌≡◌, ℕ, List, length, take, refl, sym, ap, subst, ◌∙◌, arith, inl, inr}
use Rattle.std.specs.Prelude.{◌⊎◌, Option, Some, min}
use Rattle.std.proofs.lemmas.List.{length-take, length-take-le}
use Rattle.device.specs.Disk.{Image, IsImage, MayHold, MayLog, NoNewPage, NewPage, NoNewLog, NewLog, Torn, Elapses, LeavesOnly}
use Rattle.dby_types.specs.declared.number.Lsn.{Lsn}
use Rattle.log_file.specs.Control.{control_page}
use Rattle.log_file.specs.Crash.{KeepsBytes, KeepsForced, OrControl, Kept, Crashes}
use Rattle.log_file.proofs.Moments.{one_call, no_call, and_then, weaker}

-- what was left before is left
as_before : (end : Lsn) (may_log : MayLog) (s : ℕ) (b : List ℕ) → may_log s b → KeepsBytes end may_log s b
as_before end may_log s b m = (b, (m, λ ne. refl, λ e le. refl))

-- a torn write behind the forced end
torn_keeps : (end : Lsn) (n : ℕ) (old new : MayLog) → NewLog end.segment end.offset n old new → KeepsForced end old new
torn_keeps end n old new h s b m = by_way (h s b m)
  where
    by_way : old s b ⊎ ((s ≡ end.segment) × ((d : List ℕ) × (old end.segment d × Torn end.offset n d b))) → KeepsBytes end old s b
    by_way (inl x) = as_before end old s b x
    by_way (inr x) = (
      x.1.0,
      (
        subst (λ (t : ℕ). old t x.1.0) (sym x.0) x.1.1.0,
        λ ne. absurd (ne x.0),
        λ e le. let all : min end.offset (length x.1.0) ≡ end.offset = omega (arith, le) in ap (λ (k : ℕ). take k b) (sym all) ∙ x.1.1.1.before,
      ),
    )

-- kept, and kept again
twice : (end : Lsn) (old mid : MayLog) → KeepsForced end old mid → (s : ℕ) (b : List ℕ) → KeepsBytes end mid s b → KeepsBytes end old s b
twice end old mid first s b k =
    let f = first s k.0 k.1.0 in (
      f.0,
      (
        f.1.0,
        λ ne. k.1.1 ne ∙ f.1.1 ne,
        λ e le. k.1.2 e (omega (arith, length-take end.offset k.0, ap length (f.1.2 e le), length-take-le end.offset f.0 le)) ∙ f.1.2 e le,
      ),
    )

module _ {D : Type 0} (moment : D → ℕ) (left_since : D → ℕ → Image → Type 0) (may_log : D → MayLog) (may_hold : D → MayHold) (end : Lsn) where
  -- the images of a moment
  abbrev pub image_at : D → Image → Type 0
  image_at d i = IsImage (may_hold d) (may_log d) i

  from_images : (old new : D) (pages : MayHold) (i : Image) → KeepsForced end (may_log old) (may_log new) → ((c p : ℕ) (x : Option (List ℕ)) → may_hold new c p x → pages c p x) → image_at new i → Kept end (may_log old) pages i
  from_images old new pages i logs ps h = record { log_is = λ s. logs s (i.log s) (h.1 s); pages_are = λ c p. ps c p (i.pages c p) (h.0 c p) }

  -- one call, of which is known what a crash then leaves
  pub after_one : (old new : D) → ((i : Image) → left_since old (moment old) i → image_at old i) → KeepsForced end (may_log old) (may_log new) → NoNewPage (may_hold old) (may_hold new) → Elapses (moment old) (moment new) (left_since old) (left_since new) (image_at new)
      → Crashes moment left_since may_log may_hold end old new (may_hold old)
  after_one old new only logs pages time = record {
    log_now = logs;
    pages_now = pages;
    moments = one_call moment left_since old new (image_at old) (image_at new) (Kept end (may_log old) (may_hold old)) time only
        (λ i h. from_images old old (may_hold old) i (as_before end (may_log old)) (λ c p x m. m) h) (λ i h. from_images old new (may_hold old) i logs pages h);
  }

  -- one that leaves nothing new
  pub after_quiet : (old new : D) → ((i : Image) → left_since old (moment old) i → image_at old i) → NoNewLog (may_log old) (may_log new) → NoNewPage (may_hold old) (may_hold new) → Elapses (moment old) (moment new) (left_since old) (left_since new) (image_at new)
      → Crashes moment left_since may_log may_hold end old new (may_hold old)
  after_quiet old new only logs pages time = after_one old new only (λ s b m. as_before end (may_log old) s b (logs s b m)) pages time

  -- one that writes behind the forced end
  pub after_write : (old new : D) (n : ℕ) → ((i : Image) → left_since old (moment old) i → image_at old i) → NewLog end.segment end.offset n (may_log old) (may_log new) → NoNewPage (may_hold old) (may_hold new)
      → Elapses (moment old) (moment new) (left_since old) (left_since new) (image_at new) → Crashes moment left_since may_log may_hold end old new (may_hold old)
  after_write old new n only logs pages time = after_one old new only (torn_keeps end n (may_log old) (may_log new) logs) pages time

  -- none
  pub after_none : (old : D) → ((i : Image) → left_since old (moment old) i → image_at old i) → Crashes moment left_since may_log may_hold end old old (may_hold old)
  after_none old only = record {
    log_now = as_before end (may_log old);
    pages_now = λ c p x m. m;
    moments = no_call moment left_since old (image_at old) (Kept end (may_log old) (may_hold old)) only (λ i h. from_images old old (may_hold old) i (as_before end (may_log old)) (λ c p x m. m) h);
  }

  -- one behind the other
  pub then_after : (old mid new : D) (pages more : MayHold) → Crashes moment left_since may_log may_hold end old mid pages → Crashes moment left_since may_log may_hold end mid new more → ((c p : ℕ) (x : Option (List ℕ)) → more c p x → pages c p x)
      → Crashes moment left_since may_log may_hold end old new pages
  then_after old mid new pages more a b wider = record {
    log_now = λ s x m. twice end (may_log old) (may_log mid) a.log_now s x (b.log_now s x m);
    pages_now = λ c p x m. wider c p x (b.pages_now c p x m);
    moments = and_then moment left_since old mid new (Kept end (may_log old) pages) a.moments
        (weaker moment left_since mid new (Kept end (may_log mid) more) (Kept end (may_log old) pages)
        (λ i k. record { log_is = λ s. twice end (may_log old) (may_log mid) a.log_now s (i.log s) (k.log_is s); pages_are = λ c p. wider c p (i.pages c p) (k.pages_are c p) }) b.moments);
  }

  -- with more pages
  pub with_pages : (old new : D) (pages more : MayHold) → Crashes moment left_since may_log may_hold end old new pages → ((c p : ℕ) (x : Option (List ℕ)) → pages c p x → more c p x) → Crashes moment left_since may_log may_hold end old new more
  with_pages old new pages more a wider = record {
    log_now = a.log_now;
    pages_now = λ c p x m. wider c p x (a.pages_now c p x m);
    moments = weaker moment left_since old new (Kept end (may_log old) pages) (Kept end (may_log old) more) (λ i k. record { log_is = k.log_is; pages_are = λ c p. wider c p (i.pages c p) (k.pages_are c p) }) a.moments;
  }

  -- a control page written and synced
  pub after_raise : (old new : D) (pages : MayHold) → NoNewLog (may_log old) (may_log new) → ((c p : ℕ) (x : Option (List ℕ)) → may_hold new c p x → pages c p x) → LeavesOnly moment left_since old new (IsImage pages (may_log old))
      → Crashes moment left_since may_log may_hold end old new pages
  after_raise old new pages logs ps moments = record {
    log_now = λ s b m. as_before end (may_log old) s b (logs s b m);
    pages_now = ps;
    moments = weaker moment left_since old new (IsImage pages (may_log old)) (Kept end (may_log old) pages) (λ i k. record { log_is = λ s. as_before end (may_log old) s (i.log s) (k.1 s); pages_are = λ c p. k.0 c p }) moments;
  }

  -- bytes written behind the place, and synced
  pub written : (old mid new : D) (n : ℕ) → ((i : Image) → left_since old (moment old) i → image_at old i) → ((i : Image) → left_since mid (moment mid) i → image_at mid i) → NoNewPage (may_hold old) (may_hold mid) × NewLog end.segment end.offset n (may_log old) (may_log mid)
      → Elapses (moment old) (moment mid) (left_since old) (left_since mid) (image_at mid) → NoNewPage (may_hold mid) (may_hold new) × NoNewLog (may_log mid) (may_log new) → Elapses (moment mid) (moment new) (left_since mid) (left_since new) (image_at new)
      → Crashes moment left_since may_log may_hold end old new (may_hold old)
  written old mid new n only only_mid write write_time sync sync_time =
      let first = after_write old mid n only write.1 write.0 write_time in
      then_after old mid new (may_hold old) (may_hold mid) first (after_quiet mid new only_mid sync.1 sync.0 sync_time) first.pages_now

  -- a control page written
  pub raise_begun : (old mid : D) (next : ℕ) (point : Lsn) → ((i : Image) → left_since old (moment old) i → image_at old i) → NewPage 0 0 (Some (control_page next point)) (may_hold old) (may_hold mid) × NoNewLog (may_log old) (may_log mid)
      → Elapses (moment old) (moment mid) (left_since old) (left_since mid) (image_at mid) → LeavesOnly moment left_since old mid (IsImage (OrControl next point (may_hold old)) (may_log old))
  raise_begun old mid next point only write time =
      one_call moment left_since old mid (image_at old) (image_at mid) (IsImage (OrControl next point (may_hold old)) (may_log old)) time only (λ i h. (λ c p. inl (h.0 c p), h.1))
      (λ i h. (λ c p. write.0 c p (i.pages c p) (h.0 c p), λ s. write.1 s (i.log s) (h.1 s)))

  -- a control page written and synced, at each moment
  pub raised : (old mid new : D) (next : ℕ) (point : Lsn) → ((i : Image) → left_since old (moment old) i → image_at old i) → ((i : Image) → left_since mid (moment mid) i → image_at mid i)
      → NewPage 0 0 (Some (control_page next point)) (may_hold old) (may_hold mid) × NoNewLog (may_log old) (may_log mid) → Elapses (moment old) (moment mid) (left_since old) (left_since mid) (image_at mid)
      → NoNewPage (may_hold mid) (may_hold new) × NoNewLog (may_log mid) (may_log new) → Elapses (moment mid) (moment new) (left_since mid) (left_since new) (image_at new)
      → LeavesOnly moment left_since old new (IsImage (OrControl next point (may_hold old)) (may_log old))
  raised old mid new next point only only_mid write write_time sync sync_time =
      and_then moment left_since old mid new images (raise_begun old mid next point only write write_time)
      (one_call moment left_since mid new (image_at mid) (image_at new) images sync_time only_mid at_mid (λ i h. at_mid i (λ c p. sync.0 c p (i.pages c p) (h.0 c p), λ s. sync.1 s (i.log s) (h.1 s))))
    where
      images : Image → Type 0
      images = IsImage (OrControl next point (may_hold old)) (may_log old)

      at_mid : (i : Image) → image_at mid i → images i
      at_mid i h = (λ c p. write.0 c p (i.pages c p) (h.0 c p), λ s. write.1 s (i.log s) (h.1 s))

  -- a segment left, and the number raised
  pub left_and_raised : (old mid new : D) (next : ℕ) (point : Lsn) → Crashes moment left_since may_log may_hold end old mid (may_hold old) → NewPage 0 0 (Some (control_page next point)) (may_hold mid) (may_hold new) × NoNewLog (may_log mid) (may_log new)
      → LeavesOnly moment left_since mid new (IsImage (OrControl next point (may_hold mid)) (may_log mid)) → Crashes moment left_since may_log may_hold end old new (OrControl next point (may_hold old))
  left_and_raised old mid new next point left raise moments =
      then_after old mid new (OrControl next point (may_hold old)) (OrControl next point (may_hold mid)) (with_pages old mid (may_hold old) (OrControl next point (may_hold old)) left (λ c p x m. inl m))
      (after_raise mid new (OrControl next point (may_hold mid)) raise.1 raise.0 moments) wider
    where
      wider : (c p : ℕ) (x : Option (List ℕ)) → OrControl next point (may_hold mid) c p x → OrControl next point (may_hold old) c p x
      wider c p x (inl m) = inl (left.pages_now c p x m)
      wider c p x (inr e) = inr e
