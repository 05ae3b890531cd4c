-- What is written of the rows of a table, one after the other.
use Rattle.std.proofs.Common.{ℕ, ◌≡◌, ◌∙◌, ◌⊎◌, inl, inr, true, false, if◌then◌else◌, List, [], ◌∷◌, ◌++◌, Bool, Option, Some, None, IfSome, MatchOption, refl, sym, ap, subst, append_assoc, append-nil}
use Rattle.monitor_tables.specs.declared.header.TableLayout.{TableLayout}
use Rattle.monitor_tables.specs.declared.header.TableLayout.TheVariants.{Words, Messages}
use Rattle.monitor_cells.specs.declared.listening.Listening.{Listening}
use Rattle.monitor_cells.specs.declared.setup.RecordingSetup.{RecordingSetup}
use Rattle.monitor_tables.specs.declared.message_times.MessageTimes.{MessageTimes}
use Rattle.monitor_tables.specs.declared.messages.MessageColumns.{MessageColumns}
use Rattle.monitor_tables.specs.declared.messages.MessageRow.{MessageRow}
use Rattle.monitor_tables.specs.declared.words.WordColumns.{WordColumns}
use Rattle.monitor_cells.specs.declared.seen.WordRow.{WordRow}
use Rattle.monitor_cells.specs.declared.silence.Silence.{Silence}
use Rattle.monitor_tables.specs.declared.fault.EarlyEnd.{EarlyEnd}
use Rattle.monitor_tables.specs.declared.fault.EarlyEnd.TheVariants.{Refused, Write}
use Rattle.monitor_tables.specs.declared.fault.MonitorFault.{MonitorFault}
use Rattle.monitor_tables.specs.declared.fault.RefusedRow.{RefusedRow}
use Rattle.monitor_tables.specs.declared.recording.RowsPut.{RowsPut}
use Rattle.monitor_tables.specs.declared.records.TableRecords.{TableRecords}
use Rattle.monitor_cells.specs.Cells.{is_time_text}
use Rattle.monitor_cells.specs.Listening.{last_silence, row_known}
use Rattle.monitor_tables.specs.declared.hearing.Hearing.{Hearing}
use Rattle.monitor_tables.specs.Hearing.{hearing_first, comes_first, known_by, hearing_known, all_known}
use Rattle.monitor_tables.specs.Messages.{no_messages, message_known, silence_behind}
use Rattle.monitor_tables.specs.Recording.{HeardAt, PutsRefusal}
use Rattle.monitor_tables.specs.Rows.{IsWordRow, IsMessageRow, hearing_noted, held_noted, IsApart, AreWordRows, AreApart, AreMessageRows, ComesBehind, ComeBehind, rows_known, rows_noted, silence_noted, words_begun, words_noted, message_noted, messages_known, messages_noted, all_messages_noted, IsHeardOf, IsHeardSoFar}
use Rattle.monitor_tables.specs.Refused.{IsRefusedWord, IsRefusedMessage, IsUnreadFault, RefusesNext, EndsEarly}
use Rattle.csv.specs.Records.{fields_of}
use Rattle.monitor_tables.specs.Table.{TellsAll, TellsFront}
use Rattle.monitor_tables.specs.inner.Reads.{TellsMore, RefusesWord, RefusesMessage}
use Rattle.monitor_tables.proofs.ReadLaws.{told-joined, told-part}
use Rattle.monitor_tables.specs.inner.Puts.{PutsNoted, HasText, ToldTo, IsHeardTo, WordsSoFar, MessagesSoFar, WordsRefused, MessagesRefused, PutsRows}
use Rattle.monitor_tables.proofs.PutLaws.{puts-nothing, puts-joined, puts-early}

-- ---- words

word-rows-more : (columns : WordColumns) (records : List (List (List ℕ))) (rows : List WordRow) (fields : List (List ℕ)) (row : WordRow)
    → AreWordRows columns records rows → IsWordRow columns fields row → AreWordRows columns (records ++ fields ∷ []) (rows ++ row ∷ [])
word-rows-more columns [] [] fields row are is = (is, tt)
word-rows-more columns (f ∷ records) (r ∷ rows) fields row are is = (are.0, word-rows-more columns records rows fields row are.1 is)
word-rows-more columns [] (r ∷ rows) fields row are is = absurd are
word-rows-more columns (f ∷ records) [] fields row are is = absurd are

apart-more : (h : Hearing) (rows : List WordRow) (row : WordRow) → AreApart h rows → IsApart (rows_known h rows) row → AreApart h (rows ++ row ∷ [])
apart-more h [] row are is = (is, tt)
apart-more h (r ∷ rows) row are is = (are.0, apart-more (hearing_known h r) rows row are.1 is)

known-more : (h : Hearing) (rows : List WordRow) (row : WordRow) → rows_known h (rows ++ row ∷ []) ≡ hearing_known (rows_known h rows) row
known-more h [] row = refl
known-more h (r ∷ rows) row = known-more (hearing_known h r) rows row

noted-more : (h : Hearing) (rows : List WordRow) (row : WordRow) → rows_noted h (rows ++ row ∷ []) ≡ rows_noted h rows ++ hearing_noted (rows_known h rows) row
noted-more h [] row = append-nil (hearing_noted h row)
noted-more h (r ∷ rows) row =
    let next : Hearing = hearing_known h r in
    ap (λ ns. hearing_noted h r ++ ns) (noted-more next rows row) ∙ sym (append_assoc (hearing_noted h r) (rows_noted next rows) (hearing_noted (rows_known next rows) row))

-- the word that is held back then has the text of a time, too
text-more : (h : Hearing) (row : WordRow) → HasText h → is_time_text row.time.text.bytes ≡ true → HasText (hearing_known h row)
text-more h row has is = by h.held has
  where
    pick : (l : Listening) (held : WordRow) (b : Bool) → is_time_text held.time.text.bytes ≡ true
        → HasText (if b then record { listening = row_known l row; held = Some held } else record { listening = row_known l held; held = Some row })
    pick l held true has = has
    pick l held false has = is

    by : (o : Option WordRow) → IfSome o (λ row. is_time_text row.time.text.bytes ≡ true) → HasText (known_by h.listening o row)
    by None has = is
    by (Some held) has = pick h.listening held (comes_first h.listening row held) has

pub words-none : {W : Type 0} (written : W → Option (List ℕ)) (columns : WordColumns) (h : Hearing) (w : W) → HasText h → WordsSoFar written columns [] h h w w
words-none written columns h w has = record { rows = []; are = tt; apart = tt; puts = puts-nothing w; known = refl; timed = has }

pub words-more : {W : Type 0} {written : W → Option (List ℕ)} {columns : WordColumns} {records : List (List (List ℕ))} {h g g' : Hearing} {w w' w'' : W} (fields : List (List ℕ)) (row : WordRow)
    → WordsSoFar written columns records h g w w' → IsWordRow columns fields row → PutsNoted written w' w'' (hearing_noted g row) → g' ≡ hearing_known g row
    → IsApart g row → WordsSoFar written columns (records ++ fields ∷ []) h g' w w''
words-more {written = written} {columns = columns} {records = records} {h = h} {g = g} {w = w} {w' = w'} {w'' = w''} fields row p is puts known apart = record {
  rows = p.rows ++ row ∷ [];
  are = word-rows-more columns records p.rows fields row p.are is;
  apart = apart-more h p.rows row p.apart (subst (λ x. IsApart x row) p.known apart);
  puts = subst (PutsNoted written w w'') (sym (noted-more h p.rows row))
      (puts-joined p.puts (subst (λ x. PutsNoted written w' w'' (hearing_noted x row)) p.known puts));
  known = known ∙ ap (λ x. hearing_known x row) p.known ∙ sym (known-more h p.rows row);
  timed = subst HasText (sym known) (text-more g row p.timed (ap is_time_text is.time.same ∙ is.time.is.plain));
}

-- ---- messages

message-rows-more : (columns : MessageColumns) (records : List (List (List ℕ))) (rows : List MessageRow) (fields : List (List ℕ)) (row : MessageRow)
    → AreMessageRows columns records rows → IsMessageRow columns fields row → AreMessageRows columns (records ++ fields ∷ []) (rows ++ row ∷ [])
message-rows-more columns [] [] fields row are is = (is, tt)
message-rows-more columns (f ∷ records) (r ∷ rows) fields row are is = (are.0, message-rows-more columns records rows fields row are.1 is)
message-rows-more columns [] (r ∷ rows) fields row are is = absurd are
message-rows-more columns (f ∷ records) [] fields row are is = absurd are

behind-more : (t : MessageTimes) (rows : List MessageRow) (row : MessageRow) → ComeBehind t rows → ComesBehind (messages_known t rows) row → ComeBehind t (rows ++ row ∷ [])
behind-more t [] row are is = (is, tt)
behind-more t (r ∷ rows) row are is = (are.0, behind-more (message_known t r) rows row are.1 is)

messages-known-more : (t : MessageTimes) (rows : List MessageRow) (row : MessageRow) → messages_known t (rows ++ row ∷ []) ≡ message_known (messages_known t rows) row
messages-known-more t [] row = refl
messages-known-more t (r ∷ rows) row = messages-known-more (message_known t r) rows row

messages-noted-more : (t : MessageTimes) (rows : List MessageRow) (row : MessageRow)
    → messages_noted t (rows ++ row ∷ []) ≡ messages_noted t rows ++ message_noted (messages_known t rows) row
messages-noted-more t [] row = append-nil (message_noted t row)
messages-noted-more t (r ∷ rows) row =
    let next : MessageTimes = message_known t r in
    ap (λ ns. message_noted t r ++ ns) (messages-noted-more next rows row)
    ∙ sym (append_assoc (message_noted t r) (messages_noted next rows) (message_noted (messages_known next rows) row))

pub messages-none : {W : Type 0} (written : W → Option (List ℕ)) (columns : MessageColumns) (t u : MessageTimes) (w : W) → u ≡ t → MessagesSoFar written columns [] t u w w
messages-none written columns t u w known = record { rows = []; are = tt; behind = tt; puts = puts-nothing w; known = known }

pub messages-more : {W : Type 0} {written : W → Option (List ℕ)} {columns : MessageColumns} {records : List (List (List ℕ))} {t u u' : MessageTimes} {w w' w'' : W} (fields : List (List ℕ)) (row : MessageRow)
    → MessagesSoFar written columns records t u w w' → IsMessageRow columns fields row → PutsNoted written w' w'' (message_noted u row) → u' ≡ message_known u row
    → ComesBehind u row → MessagesSoFar written columns (records ++ fields ∷ []) t u' w w''
messages-more {written = written} {columns = columns} {records = records} {t = t} {u = u} {u' = u'} {w = w} {w' = w'} {w'' = w''} fields row p is puts known rises = record {
  rows = p.rows ++ row ∷ [];
  are = message-rows-more columns records p.rows fields row p.are is;
  behind = behind-more t p.rows row p.behind (subst (λ x. ComesBehind x row) p.known rises);
  puts = subst (PutsNoted written w w'') (sym (messages-noted-more t p.rows row))
      (puts-joined p.puts (subst (λ x. PutsNoted written w' w'' (message_noted x row)) p.known puts));
  known = known ∙ ap (λ x. message_known x row) p.known ∙ sym (messages-known-more t p.rows row);
}

-- ---- rows that are refused

module _ {R : Type 0} {remaining : R → Option (List ℕ)} {t u v : TableRecords R} {told : List (List (List ℕ))} where
  -- behind words that were told
  pub word-refused : (columns : WordColumns) (h : Hearing) (fault : MonitorFault) → TellsMore remaining t u told → RefusesWord remaining columns h u v fault
      → IsUnreadFault fault ⊎ ((fields : List (List ℕ)) × TellsFront remaining t (told ++ fields ∷ []) × IsRefusedWord columns h fields v.line fault)
  word-refused columns h fault so (inl unread) = inl (fields_of v.row, unread)
  word-refused columns h fault so (inr (more, is)) = inr (fields_of v.row, told-part (told-joined so more), is)

  -- behind messages
  pub message-refused : (columns : MessageColumns) (times : MessageTimes) (fault : MonitorFault) → TellsMore remaining t u told → RefusesMessage remaining columns times u v fault
      → IsUnreadFault fault ⊎ ((fields : List (List ℕ)) × TellsFront remaining t (told ++ fields ∷ []) × IsRefusedMessage columns times fields v.line fault)
  message-refused columns times fault so (inl unread) = inl (fields_of v.row, unread)
  message-refused columns times fault so (inr (more, is)) = inr (fields_of v.row, told-part (told-joined so more), is)

-- the first rows of a table lead to what is known, behind which the next one is refused
words-refused : {R : Type 0} (remaining : R → Option (List ℕ)) (t : TableRecords R) (setup : RecordingSetup) (columns : WordColumns) (g : Hearing) (told : List (List (List ℕ))) (line : ℕ) (rows : List WordRow)
    → AreWordRows columns told rows → g ≡ rows_known (hearing_first setup) rows → (o : Option MonitorFault)
    → IfSome o (λ fault. IsUnreadFault fault ⊎ ((fields : List (List ℕ)) × TellsFront remaining t (told ++ fields ∷ []) × IsRefusedWord columns g fields line fault))
    → IfSome o (RefusesNext remaining (Words columns) setup t told line)
words-refused remaining t setup columns g told line rows are known None is = tt
words-refused remaining t setup columns g told line rows are known (Some fault) (inl unread) = inl unread
words-refused remaining t setup columns g told line rows are known (Some fault) (inr (fields, front, is)) =
    inr (fields, front, (rows, are, subst (λ h. IsRefusedWord columns h fields line fault) known is))

messages-refused : {R : Type 0} (remaining : R → Option (List ℕ)) (t : TableRecords R) (setup : RecordingSetup) (columns : MessageColumns) (u : MessageTimes) (told : List (List (List ℕ))) (line : ℕ) (rows : List MessageRow)
    → AreMessageRows columns told rows → u ≡ messages_known (no_messages setup) rows → (o : Option MonitorFault)
    → IfSome o (λ fault. IsUnreadFault fault ⊎ ((fields : List (List ℕ)) × TellsFront remaining t (told ++ fields ∷ []) × IsRefusedMessage columns u fields line fault))
    → IfSome o (RefusesNext remaining (Messages columns) setup t told line)
messages-refused remaining t setup columns u told line rows are known None is = tt
messages-refused remaining t setup columns u told line rows are known (Some fault) (inl unread) = inl unread
messages-refused remaining t setup columns u told line rows are known (Some fault) (inr (fields, front, is)) =
    inr (fields, front, (rows, are, subst (λ v. IsRefusedMessage columns v fields line fault) known is))

-- ---- tables

-- all words of rows
words-read : {W : Type 0} {written : W → Option (List ℕ)} {setup : RecordingSetup} {w w1 w2 : W} {columns : WordColumns} {told : List (List (List ℕ))} {h g : Hearing}
    → h ≡ hearing_first setup → (p : WordsSoFar written columns told h g w w1) → PutsNoted written w1 w2 (held_noted g)
    → AreApart (hearing_first setup) p.rows × PutsNoted written w w2 (words_begun setup p.rows) × (g ≡ rows_known (hearing_first setup) p.rows)
words-read {written = written} {w = w} {w1 = w1} {w2 = w2} first p held =
    let known = p.known ∙ ap (λ h. rows_known h p.rows) first in (
      subst (λ h. AreApart h p.rows) first p.apart,
      puts-joined (subst (λ h. PutsNoted written w w1 (rows_noted h p.rows)) first p.puts) (subst (λ g. PutsNoted written w1 w2 (held_noted g)) known held),
      known,
    )

module _ {R W : Type 0} {remaining : R → Option (List ℕ)} {written : W → Option (List ℕ)} {t : TableRecords R} {setup : RecordingSetup} {w w1 : W} where
  -- all rows of a table of words, and what is heard at its end
  pub words-whole : {w2 w3 : W} {columns : WordColumns} {h g : Hearing} {l : Listening} {s : Silence} (put : RowsPut) → put.fault ≡ None → h ≡ hearing_first setup
      → ((told : List (List (List ℕ))) × ToldTo remaining t told put × WordsSoFar written columns told h g w w1 × WordsRefused remaining columns g t told put)
      → PutsNoted written w1 w2 (held_noted g) × (l ≡ all_known g) → s ≡ last_silence l → PutsNoted written w2 w3 (silence_noted s)
      → PutsRows remaining written (Words columns) setup t w w3 put
  words-whole {w2 = w2} {w3 = w3} {columns = columns} {g = g} put is first (told, to, so, refused) (held, known) silence last =
      let read = words-read first so held in
      let ns : List HeardAt = words_noted setup so.rows in record {
        told = told;
        to = to;
        refused = words-refused remaining t setup columns g told put.line so.rows so.are read.2 put.fault refused;
        ns = ns;
        heard = subst (IsHeardTo (Words columns) setup told ns) (sym is) (so.rows, so.are, read.0, refl);
        puts = puts-joined read.1 (subst (λ s. PutsNoted written w2 w3 (silence_noted s)) (silence ∙ ap last_silence (known ∙ ap all_known read.2)) last);
      }

  -- its first rows
  pub words-part : {w2 : W} {columns : WordColumns} {h g : Hearing} (put : RowsPut) (fault : MonitorFault) → put.fault ≡ Some fault → h ≡ hearing_first setup
      → ((told : List (List (List ℕ))) × ToldTo remaining t told put × WordsSoFar written columns told h g w w1 × WordsRefused remaining columns g t told put)
      → PutsNoted written w1 w2 (held_noted g) → PutsRows remaining written (Words columns) setup t w w2 put
  words-part {columns = columns} {g = g} put fault is first (told, to, so, refused) held =
      let read = words-read first so held in
      let ns : List HeardAt = words_begun setup so.rows in record {
        told = told;
        to = to;
        refused = words-refused remaining t setup columns g told put.line so.rows so.are read.2 put.fault refused;
        ns = ns;
        heard = subst (IsHeardTo (Words columns) setup told ns) (sym is) (so.rows, so.are, read.0, refl);
        puts = read.1;
      }

  -- all rows of a table of messages, and what is heard at its end
  pub messages-all : {w2 : W} {columns : MessageColumns} {l m : MessageTimes} {s : Silence} (put : RowsPut) → put.fault ≡ None → l ≡ no_messages setup
      → ((told : List (List (List ℕ))) × ToldTo remaining t told put × MessagesSoFar written columns told l m w w1 × MessagesRefused remaining columns m t told put)
      → s ≡ silence_behind m → PutsNoted written w1 w2 (silence_noted s) → PutsRows remaining written (Messages columns) setup t w w2 put
  messages-all {w2 = w2} {columns = columns} {m = m} put is first (told, to, so, refused) silence last =
      let p = subst (λ x. MessagesSoFar written columns told x m w w1) first so in
      let ns : List HeardAt = all_messages_noted setup p.rows in record {
        told = told;
        to = to;
        refused = messages-refused remaining t setup columns m told put.line p.rows p.are p.known put.fault refused;
        ns = ns;
        heard = subst (IsHeardTo (Messages columns) setup told ns) (sym is) (p.rows, p.are, p.behind, refl);
        puts = puts-joined p.puts (subst (λ s. PutsNoted written w1 w2 (silence_noted s)) (silence ∙ ap silence_behind p.known) last);
      }

  -- its first rows
  pub messages-part : {columns : MessageColumns} {l m : MessageTimes} (put : RowsPut) (fault : MonitorFault) → put.fault ≡ Some fault → l ≡ no_messages setup
      → ((told : List (List (List ℕ))) × ToldTo remaining t told put × MessagesSoFar written columns told l m w w1 × MessagesRefused remaining columns m t told put) → PutsRows remaining written (Messages columns) setup t w w1 put
  messages-part {columns = columns} {m = m} put fault is first (told, to, so, refused) =
      let p = subst (λ x. MessagesSoFar written columns told x m w w1) first so in
      let ns : List HeardAt = messages_noted (no_messages setup) p.rows in record {
        told = told;
        to = to;
        refused = messages-refused remaining t setup columns m told put.line p.rows p.are p.known put.fault refused;
        ns = ns;
        heard = subst (IsHeardTo (Messages columns) setup told ns) (sym is) (p.rows, p.are, p.behind, refl);
        puts = p.puts;
      }

  -- no row was refused
  pub put-whole : {layout : TableLayout} (put : RowsPut) → put.fault ≡ None → (p : PutsRows remaining written layout setup t w w1 put) → TellsAll remaining t p.told × IsHeardOf layout setup p.told p.ns
  put-whole {layout = layout} put is p = (
    subst (λ (o : Option MonitorFault). MatchOption o (TellsAll remaining t p.told) (λ _. TellsFront remaining t p.told)) is p.to.1,
    subst (IsHeardTo layout setup p.told p.ns) is p.heard,
  )

  -- one was
  put-part : {layout : TableLayout} (put : RowsPut) (fault : MonitorFault) → put.fault ≡ Some fault → (p : PutsRows remaining written layout setup t w w1 put)
      → TellsFront remaining t p.told × IsHeardSoFar layout setup p.told p.ns
  put-part {layout = layout} put fault is p = (
    subst (λ (o : Option MonitorFault). MatchOption o (TellsAll remaining t p.told) (λ _. TellsFront remaining t p.told)) is p.to.1,
    subst (IsHeardTo layout setup p.told p.ns) is p.heard,
  )

  -- and the last line says so
  pub ends-early : (w2 : W) (has_failed : W → Bool) {layout : TableLayout} (put : RowsPut) (fault : MonitorFault) → put.fault ≡ Some fault
      → PutsRows remaining written layout setup t w w1 put → (refused : RefusedRow) → refused ≡ record { fault = fault; row = put.line; rows = put.rows } → (end : EarlyEnd) → PutsRefusal written has_failed w1 w2 refused end
      → EndsEarly remaining written has_failed layout setup t w w2 end
  ends-early w2 has_failed {layout = layout} put fault is p refused same (Refused it) ends =
      let part = put-part put fault is p in
      let it-is : it ≡ record { fault = fault; row = put.line; rows = put.rows } = ends.0 ∙ same in
      let why : RefusesNext remaining layout setup t p.told put.line fault = subst (λ (o : Option MonitorFault). IfSome o (RefusesNext remaining layout setup t p.told put.line)) is p.refused in (
        p.told,
        part.0,
        ap (λ r. r.rows) it-is ∙ p.to.0,
        subst (λ (r : RefusedRow). RefusesNext remaining layout setup t p.told r.row r.fault) (sym it-is) why,
        p.ns,
        part.1,
        p.puts.notable,
        puts-early w w1 w2 p.ns it p.puts ends.1,
      )
  ends-early w2 has_failed put fault is p refused same Write ends = ends
