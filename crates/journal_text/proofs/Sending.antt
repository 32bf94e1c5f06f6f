-- What was sent and printed so far, and what a call adds to it.
use Rattle.std.proofs.Common.{◌≡◌, ◌+◌, ◌-◌, ◌<◌, ◌≤◌, ℕ, List, [], ◌∷◌, ◌++◌, length, take, drop, get_or, Bool, true, false, refl, sym, ap, subst, ◌∙◌, inl, inr, Option, Some, None, Ok, Err, append-nil, append_assoc, arith, length-drop}
use Rattle.std.specs.Prelude.{flat_map, not}
use Rattle.std.specs.Bool.{OnTrue, OnFalse}
use Rattle.std.proofs.Math.Seq.{take-length, take-add, take-append-add}
use Rattle.std.proofs.lemmas.List.{take-append-drop, take_at, take_more, take_all, flat_map_more}
use Rattle.device.specs.declared.Failed.{Failed}
use Rattle.device.specs.Counts.{Rises}
use Rattle.device.specs.Streams.{SinkSeen, Appends, Writes}
use Rattle.journal_text.specs.Printing.{Waits, AppendsFront, TookAll, TookFront, PrintedIf, Printed, Sends, Prints, Leaves}

appends-nothing : (c : Option (List ℕ)) → Appends c c []
appends-nothing None = tt
appends-nothing (Some c) = sym (append-nil c)

appends-more : (old now next : Option (List ℕ)) (xs ys : List ℕ) → Appends old now xs → Appends now next ys → Appends old next (xs ++ ys)
appends-more None None None xs ys h r = tt
appends-more None None (Some next) xs ys h r = absurd r
appends-more None (Some now) next xs ys h r = absurd h
appends-more (Some old) None next xs ys h r = absurd h
appends-more (Some old) (Some now) None xs ys h r = absurd r
appends-more (Some old) (Some now) (Some next) xs ys h r = r ∙ ap (λ zs. zs ++ ys) h ∙ append_assoc old xs ys

-- a front of bytes
front-taken : (old now : Option (List ℕ)) (n : ℕ) (bytes : List ℕ) → Appends old now (take n bytes) → AppendsFront old now bytes
front-taken None None n bytes h = tt
front-taken None (Some now) n bytes h = absurd h
front-taken (Some old) None n bytes h = absurd h
front-taken (Some old) (Some now) n bytes h = (n, h)

-- a front of them is one of more
front-longer : (old now : Option (List ℕ)) (text more : List ℕ) → AppendsFront old now text → AppendsFront old now (text ++ more)
front-longer None None text more h = tt
front-longer None (Some now) text more h = absurd h
front-longer (Some old) None text more h = absurd h
front-longer (Some old) (Some now) text more h =
    let cut : text ++ more ≡ take h.0 text ++ (drop h.0 text ++ more) =
    ap (λ xs. xs ++ more) (sym (take-append-drop h.0 text)) ∙ append_assoc (take h.0 text) (drop h.0 text) more in
    (length (take h.0 text), h.1 ∙ ap (λ xs. old ++ xs) (sym (ap (take (length (take h.0 text))) cut ∙ take_at (take h.0 text) (drop h.0 text ++ more) (length (take h.0 text)) refl)))

-- all of some bytes, and then a front of others
front-behind : (old now next : Option (List ℕ)) (sent rest : List ℕ) → Appends old now sent → AppendsFront now next rest → AppendsFront old next (sent ++ rest)
front-behind None None None sent rest h r = tt
front-behind None None (Some next) sent rest h r = absurd r
front-behind None (Some now) next sent rest h r = absurd h
front-behind (Some old) None next sent rest h r = absurd h
front-behind (Some old) (Some now) None sent rest h r = absurd r
front-behind (Some old) (Some now) (Some next) sent rest h r =
    (length sent + r.0, r.1 ∙ ap (λ xs. xs ++ take r.0 rest) h ∙ append_assoc old sent (take r.0 rest) ∙ ap (λ xs. old ++ xs) (sym (take-append-add sent rest r.0)))

pub took-nothing : (s : SinkSeen) → TookAll s s []
took-nothing s = record { taken = appends-nothing s.taken; faults = refl; nones = refl }

took-more : (a b c : SinkSeen) (xs ys : List ℕ) → TookAll a b xs → TookAll b c ys → TookAll a c (xs ++ ys)
took-more a b c xs ys h r = record {
  taken = appends-more a.taken b.taken c.taken xs ys h.taken r.taken;
  faults = r.faults ∙ h.faults;
  nones = r.nones ∙ h.nones;
}

-- what is left of a piece
whole_rest : (at : ℕ) (xs : List ℕ) → take (length xs - at) (drop at xs) ≡ drop at xs
whole_rest at xs = rw (← length-drop at xs) (take-length (drop at xs))

-- a write that took some
pub took-next : (a b c : SinkSeen) (xs : List ℕ) (at n : ℕ) → TookAll a b (take at xs) → Writes b c (take (length xs - at) (drop at xs)) (Ok n) → 0 < n → TookAll a c (take (at + n) xs)
took-next a b c xs at n h w some =
    let taken : Appends b.taken c.taken (take n (drop at xs)) = subst (λ ys. Appends b.taken c.taken (take n ys)) (whole_rest at xs) w.takes in
    subst (TookAll a c) (sym (take-add at n xs))
    (took-more a b c (take at xs) (take n (drop at xs)) h (record { taken = taken; faults = w.cause.ok; nones = w.none.1 (λ e. absurd (omega arith)) }))

pub within-next : (b c : SinkSeen) (xs : List ℕ) (at n : ℕ) → at ≤ length xs → Writes b c (take (length xs - at) (drop at xs)) (Ok n) → at + n ≤ length xs
within-next b c xs at n h w =
    let k : n ≤ length (drop at xs) = subst (λ ys. n ≤ length ys) (whole_rest at xs) w.within in
    let e : length (drop at xs) ≡ length xs - at = length-drop at xs in
    omega arith

front_of : (a b c : SinkSeen) (xs : List ℕ) (at : ℕ) → TookAll a b (take at xs) → Appends b.taken c.taken [] → AppendsFront a.taken c.taken xs
front_of a b c xs at h r =
    front-taken a.taken c.taken at xs (subst (Appends a.taken c.taken) (append-nil (take at xs)) (appends-more a.taken b.taken c.taken (take at xs) [] h.taken r))

pub took-failed : (a b c : SinkSeen) (xs piece : List ℕ) (at : ℕ) (e : Failed) → TookAll a b (take at xs) → Writes b c piece (Err e) → TookFront a c xs
took-failed a b c xs piece at e h w = record {
  taken = front_of a b c xs at h w.takes;
  rose = inl (subst (λ n. Rises n c.faults) h.faults w.cause.failed);
}

pub took-none : (a b c : SinkSeen) (xs : List ℕ) (at : ℕ) → TookAll a b (take at xs) → at < length xs → Writes b c (take (length xs - at) (drop at xs)) (Ok 0) → TookFront a c xs
took-none a b c xs at h lt w =
    let some : 0 < length (take (length xs - at) (drop at xs)) = subst (λ ys. 0 < length ys) (sym (whole_rest at xs)) (omega (arith, length-drop at xs)) in
    record {
      taken = front_of a b c xs at h w.takes;
      rose = inr (subst (λ n. Rises n c.nones) h.nones (w.none.0 refl some));
    }

pub took-whole : (a b : SinkSeen) (xs : List ℕ) (at : ℕ) → length xs ≤ at → TookAll a b (take at xs) → TookAll a b xs
took-whole a b xs at h t = subst (TookAll a b) (take_all at xs h) t

-- what waits is sent
pub sends-failed : (s : SinkSeen) (piece : List ℕ) → Sends true s true s piece
sends-failed s piece = record { emptied = λ start text p. p }

pub sends-all : (r : Bool) (a b : SinkSeen) (piece : List ℕ) → OnTrue r (TookAll a b piece) → OnFalse r (TookFront a b piece) → Sends false a (not r) b piece
sends-all true a b piece all front = record {
  emptied = λ start text p. record {
    sent = p.sent ++ piece;
    whole = p.whole ∙ sym (append-nil (p.sent ++ piece));
    took = took-more start a b p.sent piece p.took all;
  };
}
sends-all false a b piece all front = record {
  emptied = λ start text p. record {
    taken = subst (AppendsFront start.taken b.taken) (sym p.whole) (front-behind start.taken a.taken b.taken p.sent piece p.took.taken front.taken);
    rose = elim front.rose [ inl f ↦ inl (subst (λ n. Rises n b.faults) p.took.faults f) | inr n ↦ inr (subst (λ n. Rises n b.nones) p.took.nones n) ];
  };
}

pub prints-nothing : (s : SinkSeen) (o : Waits) → Prints s o s o []
prints-nothing s o = record { behind = λ start text p. subst (Printed start s o) (sym (append-nil text)) p }

pub prints-then : (a b c : SinkSeen) (p q r : Waits) (xs ys : List ℕ) → Prints a p b q xs → Prints b q c r ys → Prints a p c r (xs ++ ys)
prints-then a b c p q r xs ys h k = record {
  behind = λ start text printed. subst (Printed start c r) (append_assoc text xs ys) (k.behind start (text ++ xs) (h.behind start text printed));
}

pub prints-sent : (a b : SinkSeen) (p q : Waits) → Sends p.failed a q.failed b p.pending → q.pending ≡ [] → Prints a p b q []
prints-sent a b p q h e = record {
  behind = λ start text printed. subst (λ xs. PrintedIf q.failed start b xs (text ++ [])) (sym e) (subst (PrintedIf q.failed start b []) (sym (append-nil text)) (h.emptied start text printed));
}

byte_if : (f : Bool) (start s : SinkSeen) (pending text : List ℕ) (byte : ℕ) → PrintedIf f start s pending text → PrintedIf f start s (pending ++ byte ∷ []) (text ++ byte ∷ [])
byte_if false start s pending text byte p = record {
  sent = p.sent;
  whole = ap (λ xs. xs ++ byte ∷ []) p.whole ∙ append_assoc p.sent pending (byte ∷ []);
  took = p.took;
}
byte_if true start s pending text byte p = record { taken = front-longer start.taken s.taken text (byte ∷ []) p.taken; rose = p.rose }

pub prints-byte : (s : SinkSeen) (p q : Waits) (byte : ℕ) → q.pending ≡ p.pending ++ byte ∷ [] → q.failed ≡ p.failed → Prints s p s q (byte ∷ [])
prints-byte s p q byte e f = record {
  behind = λ start text printed. subst (λ b. PrintedIf b start s q.pending (text ++ byte ∷ [])) (sym f)
      (subst (λ xs. PrintedIf p.failed start s xs (text ++ byte ∷ [])) (sym e) (byte_if p.failed start s p.pending text byte printed));
}

flat_more : {X : Type 0} (f : X → List ℕ) (xs : List X) (i : ℕ) (x : X) → i < length xs → x ≡ get_or xs i x → flat_map f (take (i + 1) xs) ≡ flat_map f (take i xs) ++ f x
flat_more f xs i x lt is = ap (flat_map f) (take_more xs i x lt ∙ ap (λ y. take i xs ++ y ∷ []) (sym is)) ∙ sym (flat_map_more f [] (take i xs) x)

-- one item more of a list
pub prints-more : {X : Type 0} (f : X → List ℕ) (a b c : SinkSeen) (p q r : Waits) (xs : List X) (i : ℕ) (x : X) → i < length xs → x ≡ get_or xs i x
    → Prints a p b q (flat_map f (take i xs)) → Prints b q c r (f x) → Prints a p c r (flat_map f (take (i + 1) xs))
prints-more f a b c p q r xs i x lt is h k = subst (Prints a p c r) (sym (flat_more f xs i x lt is)) (prints-then a b c p q r (flat_map f (take i xs)) (f x) h k)

-- one byte more of a piece, once there is room for it
pub prints-next : (a b c : SinkSeen) (p q r s : Waits) (xs : List ℕ) (i x : ℕ) → i < length xs → x ≡ get_or xs i 0
    → Prints a p b q (take i xs) → Prints b q c r [] → s.pending ≡ r.pending ++ x ∷ [] → s.failed ≡ r.failed → Prints a p c s (take (i + 1) xs)
prints-next a b c p q r s xs i x lt is h room e f =
    let more : take (i + 1) xs ≡ take i xs ++ x ∷ [] = take_more xs i 0 lt ∙ ap (λ y. take i xs ++ y ∷ []) (sym is) in
    subst (Prints a p c s) (sym more) (prints-then a c c p r s (take i xs) (x ∷ [])
    (subst (Prints a p c r) (append-nil (take i xs)) (prints-then a b c p q r (take i xs) [] h room)) (prints-byte c r s x e f))

pub prints-whole : (a b : SinkSeen) (p q : Waits) (xs : List ℕ) (i : ℕ) → length xs ≤ i → Prints a p b q (take i xs) → Prints a p b q xs
prints-whole a b p q xs i h k = subst (Prints a p b q) (take_all i xs h) k

pub prints-all : {X : Type 0} (f : X → List ℕ) (a b : SinkSeen) (p q : Waits) (xs : List X) (i : ℕ) → length xs ≤ i → Prints a p b q (flat_map f (take i xs)) → Prints a p b q (flat_map f xs)
prints-all f a b p q xs i h k = subst (λ ys. Prints a p b q (flat_map f ys)) (take_all i xs h) k

pub leaves_if : (f : Bool) (start s : SinkSeen) (text : List ℕ) → PrintedIf f start s [] text → Leaves (not f) start s text
leaves_if false start s text p = subst (TookAll start s) (sym (p.whole ∙ append-nil p.sent)) p.took
leaves_if true start s text p = p
