-- Turns of a run, one after the other: what a run of n calls comes to by one more.
-- Assumes nothing.
use mathlib.Core.Path.{◌≡◌, refl, sym, ap, ap₂, subst, ◌∙◌}
use mathlib.Core.List.{List, [], ◌∷◌, ◌++◌, append_assoc, append-nil}
use Prim.Native.Nat.{ℕ, zero, suc, ◌+◌, ◌-◌, ◌*◌, ◌≤◌, ◌<◌, min}
use native.Mathlib.Nat.{zero-add, suc-add}
use native.Mathlib.Numerals.{add-one}
use native.Mathlib.Omega.{arith}
use lib.ListN.{length, take, drop, length-append, length-take, length-drop}
use lib.Seq.{take_at, drop_at, take_all, take-nil, drop-length, length-take-le, take-append_seam, drop-append-add, drop-drop}
use borrow.Rule.Slice.PartMut.{mid_of, post_of, put_mid, same_len_mid}
use Rattle.octets.specs.Bytes.{be, put_be, bytes_of}
use Rattle.octets.proofs.Bytes.{put-eq}
use Rattle.octets.proofs.Order.{stride}
use Rattle.octets.proofs.Records.{records-more}
use Rattle.block.specs.declared.Answer.{Answer}
use Rattle.table.specs.Calls.{Call, Lengths}
use Rattle.demands.specs.Model.{four_bytes, complement}
use Rattle.demands.specs.History.{Event}
use Rattle.demands.proofs.Orders.{four_bytes_lem}
use Rattle.script.specs.declared.Said.{Said}
use Rattle.script.specs.Script.{Step, call_at, step_at, steps_of, lent_to}
use Rattle.script.specs.Run.{Called, event_of, event_in, StepCalled, entry, Turned, RunState, run_state, output_of, passed, held_after, InTurn, AllInTurn, entries, Run, run_lengths}
use Rattle.script.proofs.Fronts.{put_back, front-lent, front-left, rest-left}

-- ---- one event more at the end

one-held : (room : ℕ) (h : RunState) (es : List Event) (e : Event) → held_after room h (es ++ (e ∷ [])) ≡ passed room (held_after room h es) e
one-held room h [] e = refl
one-held room h (x ∷ es) e = one-held room (passed room h x) es e

one-in-turn : (l : Lengths) (h : RunState) (cs : List Step) (es : List Event) (c : Step) (e : Event) → AllInTurn l h cs es
    → InTurn l (held_after l.output h es) c e
    → AllInTurn l h (cs ++ (c ∷ [])) (es ++ (e ∷ []))
one-in-turn l h [] [] c e a p = (p, tt)
one-in-turn l h [] (x ∷ es) c e a p = absurd a
one-in-turn l h (b ∷ cs) [] c e a p = absurd a
one-in-turn l h (b ∷ cs) (x ∷ es) c e a p = (a.0, one-in-turn l (passed l.output h x) cs es c e a.1 p)

one_entry : (room : ℕ) (h : RunState) (es : List Event) (e : Event)
    → entries room h (es ++ (e ∷ [])) ≡ entries room h es ++ entry (output_of room (held_after room h es)) e
one_entry room h [] e = append-nil (entry (output_of room h) e)
one_entry room h (x ∷ es) e =
    let after : RunState = held_after room (passed room h x) es in
    ap (λ (l : List ℕ). entry (output_of room h) x ++ l) (one_entry room (passed room h x) es e)
    ∙ sym (append_assoc (entry (output_of room h) x) (entries room (passed room h x) es) (entry (output_of room after) e))

-- one step more
one-step : (g script : List ℕ) (i : ℕ) → steps_of g script i ++ (step_at g script (36 * i) ∷ []) ≡ steps_of g script (i + 1)
one-step g script i =
    ap (λ (n : ℕ). steps_of g script i ++ (step_at g script n ∷ [])) (sym (zero-add (36 * i)))
    ∙ sym (records-more (step_at g script) 36 i 0)
    ∙ ap (steps_of g script) (sym (add-one i))

-- ---- parts of lists

-- behind the first n of the first n + k are the first k of those behind n
drop-take : (n k : ℕ) (l : List ℕ) → drop n (take (n + k) l) ≡ take k (drop n l)
drop-take zero k l = ap (λ (j : ℕ). take j l) (zero-add k)
drop-take (suc n) k [] = ap (drop (suc n)) (take-nil (suc n + k)) ∙ sym (take-nil k)
drop-take (suc n) k (x ∷ l) = ap (λ (j : ℕ). drop (suc n) (take j (x ∷ l))) (suc-add n k) ∙ drop-take n k l

-- four bytes written behind a front
written_next : (p s : List ℕ) (v : ℕ) → 4 ≤ length s → put_be 4 (p ++ s) (length p) v ≡ p ++ four_bytes v ++ drop 4 s
written_next p s v h =
    put-eq 4 (p ++ s) (length p) v (omega (arith, length-append p s))
    ∙ ap₂ (λ (x y : List ℕ). x ++ bytes_of 4 v ++ y) (take-append_seam p s) (drop-append-add p s 4)
    ∙ ap (λ (x : List ℕ). p ++ x ++ drop 4 s) (sym (four_bytes_lem v))

-- the three numbers of an answer, written before an output
answer-written : (s : List ℕ) (a b c : ℕ) → 12 ≤ length s
    → put_be 4 (put_be 4 (put_be 4 s 0 a) 4 b) 8 c ≡ four_bytes a ++ four_bytes b ++ four_bytes c ++ drop 12 s
unfolding four_bytes
answer-written s a b c h =
    ap (λ (x : List ℕ). put_be 4 (put_be 4 x 4 b) 8 c) (written_next [] s a (omega arith))
    ∙ ap (λ (x : List ℕ). put_be 4 x 8 c) (written_next (four_bytes a) (drop 4 s) b (omega (arith, length-drop 4 s)))
    ∙ written_next (four_bytes a ++ four_bytes b) (drop 4 (drop 4 s)) c (omega (arith, length-drop 4 s, length-drop 4 (drop 4 s)))
    ∙ ap (λ (x : List ℕ). four_bytes a ++ four_bytes b ++ four_bytes c ++ x) (drop-drop 4 4 (drop 4 s) ∙ drop-drop 8 4 s)

-- the part behind the first 12, lent to its end and put back
module _ (p o : List ℕ) (h : 12 ≤ length p) where
  behind : mid_of 12 (length p - 12) p ≡ drop 12 p
  behind = take_all (length p - 12) (drop 12 p) (omega (arith, length-drop 12 p))

  put-behind : drop 12 (put_mid 12 (length p - 12) p o) ≡ o
  put-behind =
      drop_at (take 12 p) (o ++ post_of 12 (length p - 12) p) 12 (length-take-le 12 p h)
      ∙ ap (λ (l : List ℕ). o ++ l) (ap (λ (n : ℕ). drop n (drop 12 p)) (sym (length-drop 12 p)) ∙ drop-length (drop 12 p))
      ∙ append-nil o

  pub put-long : length o ≡ length (mid_of 12 (length p - 12) p) → 12 ≤ length (put_mid 12 (length p - 12) p o)
  put-long e = omega (arith, same_len_mid 12 (length p - 12) p o e)

same-event : (c : Call) (r : Said) (t' w m v out w' m' v' out'' a b d e a' b' d' e' : List ℕ) → w ≡ a → m ≡ b → v ≡ d → out ≡ e → w' ≡ a' → m' ≡ b'
    → v' ≡ d'
    → out'' ≡ e'
    → event_of c w m v out r t' w' m' v' out'' ≡ event_of c a b d e r t' a' b' d' e'
same-event c r t' w m v out w' m' v' out'' a b d e a' b' d' e' ea eb ed ee ea' eb' ed' ee' = rw (ea, eb, ed, ee, ea', eb', ed', ee')

-- one step: the call, lent the first i bytes of the scratch, j of the read map and k of the output, and the first n counts
pub lent : (g s : List ℕ) (at : ℕ) (t w m v out : List ℕ) (r : Said) (t' w' m' v' out'' : List ℕ) (i j n k : ℕ)
    → i ≡ min (be 4 s (at + 28)) (length w)
    → j ≡ min (be 4 s (at + 24)) (length m)
    → n ≡ min (be 4 s (at + 32)) (length v)
    → k ≡ min (be 4 s (at + 20)) (length out)
    → length w' ≡ length (take i w)
    → length m' ≡ length (take j m)
    → length v' ≡ length (take n v)
    → length out'' ≡ length (take k out)
    → Called t (event_of (call_at g s at) (take i w) (take j m) (take n v) (take k out) r t' w' m' v' out'')
    → StepCalled (step_at g s at) t w m v out r t' (w' ++ drop i w) (m' ++ drop j m) (v' ++ drop n v) (out'' ++ drop k out)
unfolding step_at
lent g s at t w m v out r t' w' m' v' out'' i j n k ei ej en ek nw nm nv nout c =
    let a : ℕ = be 4 s (at + 28) in
    let b : ℕ = be 4 s (at + 24) in
    let d : ℕ = be 4 s (at + 32) in
    let e : ℕ = be 4 s (at + 20) in
    record {
      called =
          subst (Called t)
          (same-event (call_at g s at) r t' (take i w) (take j m) (take n v) (take k out) w' m' v' out'' (take a w) (take b m) (take d v) (take e out)
          (take a (w' ++ drop i w))
          (take b (m' ++ drop j m))
          (take d (v' ++ drop n v))
          (take e (out'' ++ drop k out))
          (front-lent a i w w' ei nw)
          (front-lent b j m m' ej nm)
          (front-lent d n v v' en nv)
          (front-lent e k out out'' ek nout)
          (sym (front-left a i w w' ei nw))
          (sym (front-left b j m m' ej nm))
          (sym (front-left d n v v' en nv))
          (sym (front-left e k out out'' ek nout)))
          c;
      scratch_rest = rest-left a i w w' ei nw;
      map_rest = rest-left b j m m' ej nm;
      counts_rest = rest-left d n v v' en nv;
      output_rest = rest-left e k out out'' ek nout;
    }

-- one turn: the step, on what lies behind the answer's place, and then the answer with its ceiling
pub turned : (c : Step) (t w m v p : List ℕ) (r : Said) (t' w' m' v' o u u' u'' : List ℕ) → 12 ≤ length p → length o ≡ length (mid_of 12 (length p - 12) p)
    → StepCalled c t w m v (mid_of 12 (length p - 12) p) r t' w' m' v' o
    → u ≡ put_be 4 (put_mid 12 (length p - 12) p o) 0 r.answer.number
    → u' ≡ put_be 4 u 4 r.answer.detail
    → u'' ≡ put_be 4 u' 8 (complement r.ceiling)
    → Turned c t w m v p t' w' m' v' u''
turned c t w m v p r t' w' m' v' o u u' u'' h n k e0 e4 e8 =
    let a : Answer = r.answer in
    record {
      said = r;
      output' = o;
      lent = subst (λ (x : List ℕ). StepCalled c t w m v x r t' w' m' v' o) (behind p o h) k;
      written =
          e8 ∙ ap (λ (x : List ℕ). put_be 4 x 8 (complement r.ceiling)) (e4 ∙ ap (λ (x : List ℕ). put_be 4 x 4 a.detail) e0)
          ∙ answer-written (put_mid 12 (length p - 12) p o) a.number a.detail (complement r.ceiling) (put-long p o h n)
          ∙ ap (λ (x : List ℕ). four_bytes a.number ++ four_bytes a.detail ++ four_bytes (complement r.ceiling) ++ x) (put-behind p o h);
    }

-- ---- a run

-- a run that has come to the place `at` of the log, with the lengths as they were
pub record Going (script g : List ℕ) (l : Lengths) (h : RunState) (t w m v log : List ℕ) (i at : ℕ) : Type 0 where
  pub run : Run script g i l h t w m v log
  pub place : length (entries l.output h run.events) ≡ at
  pub table : length t ≡ l.table
  pub scratch : length w ≡ l.scratch
  pub read_map : length m ≡ l.read_map
  pub counts : length v ≡ l.counts

-- the next part is within the log
pub part-fits : (part i n at bytes : ℕ) → i < n → at ≡ part * i → part * n ≤ bytes → at + part ≤ bytes
part-fits part i n at bytes h e l = omega (arith, stride part h)

-- before the first call
pub start : (script g t w m v log : List ℕ) (part : ℕ) → Going script g (run_lengths t w m v part) (run_state t w m v log) t w m v log 0 0
start script g t w m v log part =
    record {
      run = record { events = []; in_turn = tt; table = refl; scratch = refl; read_map = refl; counts = refl; log = refl };
      place = refl;
      table = refl;
      scratch = refl;
      read_map = refl;
      counts = refl;
    }

-- after the last
pub ended : (script g : List ℕ) (l : Lengths) (h : RunState) (t w m v log : List ℕ) (i n at : ℕ) → Going script g l h t w m v log i at → i ≤ n → n ≤ i
    → Run script g n l h t w m v log
ended script g l h t w m v log i n at going a b =
    let e : i ≡ n = omega arith in
    subst (λ (k : ℕ). Run script g k l h t w m v log) e going.run

same-lengths : (l : Lengths) (a b c d e : ℕ) → a ≡ l.table → b ≡ l.output → c ≡ l.read_map → d ≡ l.scratch → e ≡ l.counts
    → ◌≡◌ {A = Lengths} (record { table = a; output = b; read_map = c; scratch = d; counts = e }) l
same-lengths l a b c d e ea eb ec ed ee = rw (ea, eb, ec, ed, ee)

module _ (script g : List ℕ) (l : Lengths) (h : RunState) (t w m v log : List ℕ) (i at : ℕ) (going : Going script g l h t w m v log i at) where
  es : List Event
  es = going.run.events

  x : RunState
  x = held_after l.output h es

  -- what lies behind the place is as it was lent
  rest : drop at log ≡ x.log
  unfolding es x
  rest = ap (drop at) going.run.log ∙ drop_at (entries l.output h es) x.log at going.place

  done : take at log ≡ entries l.output h es
  unfolding es x
  done = ap (take at) going.run.log ∙ take_at (entries l.output h es) x.log at going.place

  module _ (k : ℕ) (size : k ≡ 12 + l.output) (room : at + k ≤ length log) (t' w' m' v' p : List ℕ)
      (u : Turned (step_at g script (36 * i)) t w m v (mid_of at k log) t' w' m' v' p) where
    c : Step
    c = step_at g script (36 * i)

    out : List ℕ
    out = drop 12 (mid_of at k log)

    e : Event
    e = event_in c w m v out u.said t' w' m' v' u.output'

    output-is : out ≡ output_of l.output x
    unfolding x es out
    output-is = ap₂ (λ (n : ℕ) (r : List ℕ). drop 12 (take n r)) size rest ∙ drop-take 12 l.output x.log

    output-long : length out ≡ l.output
    unfolding out
    output-long = omega (arith, length-drop 12 (mid_of at k log), length-take k (drop at log), length-drop at log)

    -- so many bytes are lent of a list of the length n
    some : (n j : ℕ) (s : List ℕ) → length s ≡ n → length (take j s) ≡ min j n
    some n j s q = length-take j s ∙ ap (min j) q

    in-turn : InTurn l x c e
    unfolding e x es c out
    in-turn =
        record {
          call = refl;
          called = subst (λ (y : List ℕ). Called y e) going.run.table u.lent.called;
          scratch = ap (take c.scratch) going.run.scratch;
          read_map = ap (take c.read_map) going.run.read_map;
          counts = ap (take c.counts) going.run.counts;
          output = ap (take c.output) output-is;
          lent =
              same-lengths (lent_to c l) (length x.table) (length (take c.output out)) (length (take c.read_map m)) (length (take c.scratch w))
              (length (take c.counts v))
              (ap length (sym going.run.table) ∙ going.table)
              (some l.output c.output out output-long)
              (some l.read_map c.read_map m going.read_map)
              (some l.scratch c.scratch w going.scratch)
              (some l.counts c.counts v going.counts);
        }

    -- the part is the entry of its event
    entry-is : p ≡ entry (output_of l.output x) e
    unfolding e x es c out
    entry-is =
        u.written
        ∙ ap (λ (y : List ℕ). four_bytes u.said.answer.number ++ four_bytes u.said.answer.detail ++ four_bytes (complement u.said.ceiling) ++ y)
        (put_back c.output out u.output' u.lent.output_rest
        ∙ ap (λ (y : List ℕ). take c.output u.output' ++ drop (length (take c.output out)) y) output-is)

    log_is : put_mid at k log p ≡ entries l.output h (es ++ (e ∷ [])) ++ drop (12 + l.output) x.log
    unfolding x es
    log_is =
        ap₂ (λ (y z : List ℕ). y ++ (p ++ z)) done (ap₂ (λ (n : ℕ) (r : List ℕ). drop n r) size rest)
        ∙ sym (append_assoc (entries l.output h es) p (drop (12 + l.output) x.log))
        ∙ ap (λ (y : List ℕ). y ++ drop (12 + l.output) x.log)
        (ap (λ (y : List ℕ). entries l.output h es ++ y) entry-is ∙ sym (one_entry l.output h es e))

    -- scratch, read map and counts: what the call left, and behind it what was there
    scratch-is : w' ≡ (passed l.output x e).scratch
    unfolding e x es c
    scratch-is =
        put_back c.scratch w w' u.lent.scratch_rest
        ∙ ap (λ (y : List ℕ). take c.scratch w' ++ drop (length (take c.scratch w)) y) going.run.scratch

    map_is : m' ≡ (passed l.output x e).read_map
    unfolding e x es c
    map_is =
        put_back c.read_map m m' u.lent.map_rest
        ∙ ap (λ (y : List ℕ). take c.read_map m' ++ drop (length (take c.read_map m)) y) going.run.read_map

    counts-is : v' ≡ (passed l.output x e).counts
    unfolding e x es c
    counts-is =
        put_back c.counts v v' u.lent.counts_rest
        ∙ ap (λ (y : List ℕ). take c.counts v' ++ drop (length (take c.counts v)) y) going.run.counts

    -- and one step more
    pub next : (end : ℕ) → end ≡ at + k → length p ≡ length (mid_of at k log) → length t' ≡ length t → length w' ≡ length w → length m' ≡ length m
        → length v' ≡ length v
        → Going script g l h t' w' m' v' (put_mid at k log p) (i + 1) end
    unfolding e x es c
    next end ee np nt nw nm nv =
        record {
          run =
              record {
                events = es ++ (e ∷ []);
                in_turn =
                    subst (λ (cs : List Step). AllInTurn l h cs (es ++ (e ∷ []))) (one-step g script i)
                    (one-in-turn l h (steps_of g script i) es c e going.run.in_turn in-turn);
                table = sym (ap (λ (y : RunState). y.table) (one-held l.output h es e));
                scratch = scratch-is ∙ sym (ap (λ (y : RunState). y.scratch) (one-held l.output h es e));
                read_map = map_is ∙ sym (ap (λ (y : RunState). y.read_map) (one-held l.output h es e));
                counts = counts-is ∙ sym (ap (λ (y : RunState). y.counts) (one-held l.output h es e));
                log =
                    log_is ∙ ap (λ (y : RunState). entries l.output h (es ++ (e ∷ [])) ++ y.log) (sym (one-held l.output h es e));
              };
          place =
              ap length (one_entry l.output h es e) ∙ length-append (entries l.output h es) (entry (output_of l.output x) e)
              ∙ ap₂ (λ (a b : ℕ). a + b) going.place
              (ap length (sym entry-is) ∙ np ∙ omega (arith, length-take k (drop at log), length-drop at log))
              ∙ sym ee;
          table = nt ∙ going.table;
          scratch = nw ∙ going.scratch;
          read_map = nm ∙ going.read_map;
          counts = nv ∙ going.counts;
        }
