-- Off and on keep the level: once it is saved, no call but command 7 touches the save, and the log's setting is the history's.
use Rattle.std.specs.Prelude.{Some, None}
use Prim.Native.Nat.{ℕ}
use mathlib.Core.Path.{◌≡◌, refl, ap, ◌∙◌}
use mathlib.Core.Bool.{Bool, true, false, cond, false≢true}
use mathlib.Core.List.{List, [], ◌∷◌, ◌++◌}
use borrow.Author.Tests.{eqb-true}
use lib.Dec.{ltb}
use lib.IntN.{ℤ, pos, negsuc}
use lib.ListN.{length}
use Rattle.console.specs.Console.{turned_off, turned_on, set_to}
use Rattle.console.specs.declared.Console.{Console}
use Rattle.console.proofs.TurnLaws.{off-saves, off_keeps, set_keeps, minimum_keeps, on_restores, on_empties}
use Rattle.record.specs.Record.{Record}
use Rattle.eventlog.specs.Answer.{Ruling, allowed, refused, is, natural}
use Rattle.eventlog.specs.View.{View}
use Rattle.eventlog.specs.declared.Refusal.{Refusal}
use Rattle.eventlog.specs.declared.Refusal.TheVariants.{EPERM}
use Rattle.writes.specs.Write.{outside_record, box_record, outside_ruling, box_ruling}
use Rattle.syslog.specs.Command.{command_ruling, marks_after, command_by}
use Rattle.syslog.specs.Minimum.{minimum_ruling, minimum_by}
use Rattle.syslog.specs.declared.Asked.{Asked}
use Rattle.history.specs.Calls.{Call, outside, box, make, place, read, seek, command, save, minimum, check, console, Reply, if_there, nobody}
use Rattle.history.specs.Past.{Past, Told, telling, held, next_number, readers_at, past_write, past_step, past_after, fresh_past}
use Rattle.history.specs.Demand2.{fresh, AllTimed}
use Rattle.history.specs.LevelKept.{Order, ordered, NotOn, NoneOn, off_and_on, KeepsLevel, LogKeepsLevel}
use Rattle.history.proofs.SoundLaws.{sound-after, sound-fresh}
use Rattle.history.proofs.Demand2.{setting-is, agree_after, agree_fresh}

abbrev setting_in : Past → Console
setting_in p = p.marks.setting

-- ---- command 6 and command 7

off-is : (p : Past) (o : Order) → setting_in (past_step p (ordered 6 o)).past ≡ turned_off (setting_in p)
unfolding past_step command_ruling command_by marks_after held
off-is p o = refl

on-is : (p : Past) (o : Order) → setting_in (past_step p (ordered 7 o)).past ≡ turned_on (setting_in p)
unfolding past_step command_ruling command_by marks_after held
on-is p o = refl

-- ---- any other call

seven : (z : ℤ) → is z 7 ≡ true → z ≡ pos 7
seven (pos n) e = ap pos (eqb-true n 7 e)
seven (negsuc n) e = absurd (false≢true e)

barred : (v : View) (a : Asked) (lent : List ℕ) → a.command ≡ pos 7 → a.privilege ≡ false → command_ruling v a lent ≡ refused EPERM
unfolding command_ruling
barred v a lent e f = rw (e, f)

module _ (p : Past) (m : ℕ) (saved : (setting_in p).saved ≡ Some m) where
  write_keeps : (r : Record) (bytes : ℕ) (q : Ruling) → (setting_in (past_write p r bytes q).past).saved ≡ Some m
  unfolding past_write
  write_keeps r bytes allowed = saved
  write_keeps r bytes (refused why) = saved

  there_keeps : (t : Bool) (r : Reply) (readers : List ℕ) → (setting_in (if_there {A = Told} t (telling r (readers_at p readers)) (telling nobody p)).past).saved ≡ Some m
  there_keeps true r readers = saved
  there_keeps false r readers = saved

  other_keeps : (a : Asked) (lent : List ℕ) → is a.command 7 ≡ false → (q : Ruling) → (command_by (held p) a lent q).marks.setting.saved ≡ Some m
  unfolding command_by marks_after held
  other_keeps a lent e allowed = rw e (go (is a.command 6) (is a.command 8))
    where
      go : (t u : Bool) → (cond t (turned_off (setting_in p)) (cond u (set_to (setting_in p) (natural a.len)) (setting_in p))).saved ≡ Some m
      go true u = off_keeps (setting_in p) m saved
      go false true = set_keeps (setting_in p) (natural a.len) ∙ saved
      go false false = saved
  other_keeps a lent e (refused why) = saved

  refused_keeps : (a : Asked) (lent : List ℕ) (why : Refusal) → (command_by (held p) a lent (refused why)).marks.setting.saved ≡ Some m
  unfolding command_by held
  refused_keeps a lent why = saved

  command_keeps : (a : Asked) (lent : List ℕ) → NotOn (command a lent) → (command_by (held p) a lent (command_ruling (held p) a lent)).marks.setting.saved ≡ Some m
  command_keeps a lent h = go _ refl
    where
      go : (t : Bool) → is a.command 7 ≡ t → (command_by (held p) a lent (command_ruling (held p) a lent)).marks.setting.saved ≡ Some m
      go true e =
          let z : a.command ≡ pos 7 = seven a.command e in
          rw (barred (held p) a lent z (h z)) (refused_keeps a lent EPERM)
      go false e = other_keeps a lent e (command_ruling (held p) a lent)

  minimum-leaves : (wanted : ℤ) (q : Ruling) → (minimum_by (held p) wanted q).marks.setting.saved ≡ Some m
  unfolding minimum_by held
  minimum-leaves wanted allowed = minimum_keeps (setting_in p) (natural wanted) ∙ saved
  minimum-leaves wanted (refused why) = saved

  keeps_saved : (c : Call) → NotOn c → (setting_in (past_step p c).past).saved ≡ Some m
  unfolding past_step
  keeps_saved (outside time bytes caller) h = write_keeps (outside_record (next_number p) time bytes caller) (length bytes) (outside_ruling (held p) bytes)
  keeps_saved (box facility level time text dictionary fragment caller) h =
      write_keeps (box_record (next_number p) time facility level text dictionary fragment caller) _ (box_ruling (held p) facility level text dictionary)
  keeps_saved make h = saved
  keeps_saved (place i n) h = saved
  keeps_saved (read i lent) h = there_keeps (ltb i (length p.readers)) _ _
  keeps_saved (seek i offset whence) h = there_keeps (ltb i (length p.readers)) _ _
  keeps_saved (command a lent) h = command_keeps a lent h
  keeps_saved (save number lent) h = saved
  keeps_saved (minimum wanted) h = minimum-leaves wanted (minimum_ruling wanted)
  keeps_saved check h = saved
  keeps_saved (console level setting) h = saved

-- ---- runs

restores : (m : ℕ) (cs : List Call) (p : Past) → (setting_in p).saved ≡ Some m → NoneOn cs → (on : Order)
    → let q = past_after p (cs ++ (ordered 7 on ∷ [])) in ((setting_in q).level ≡ m) × ((setting_in q).saved ≡ None)
unfolding past_after
restores m [] p e n on = rw (on-is p on) (on_restores (setting_in p) m e, on_empties (setting_in p))
restores m (c ∷ cs) p e n on = restores m cs (past_step p c).past (keeps_saved p m e c n.0) n.1 on

pub keeps_level : KeepsLevel
unfolding past_after
keeps_level p e off cs n on =
    restores (setting_in p).level cs (past_step p (ordered 6 off)).past (rw (off-is p off) (off-saves (setting_in p) e)) n on

-- ---- the log itself

timed_on : (cs : List Call) (on : Order) → AllTimed cs → AllTimed (cs ++ (ordered 7 on ∷ []))
timed_on [] on t = (tt, tt)
timed_on (c ∷ cs) on t = (t.0, timed_on cs on t.1)

pub log_keeps_level : LogKeepsLevel
log_keeps_level buffer l h before t none off cs u n on =
    let ok = sound-fresh (length buffer) l in
    let a = agree_after before (fresh buffer) (fresh_past (length buffer)) (agree_fresh buffer l h) ok t in
    let ok' = sound-after before (fresh_past (length buffer)) ok t in
    let run = off_and_on off cs on in
    let timed : AllTimed run = (tt, timed_on cs on u) in
    let first = setting-is _ _ a ok' in
    let last = setting-is _ _ (agree_after run _ _ a ok' timed) (sound-after run _ ok' timed) in
    let k = keeps_level (past_after (fresh_past (length buffer)) before) (rw first at none) off cs n on in
    (rw (last, first) k.0, rw last k.1)
