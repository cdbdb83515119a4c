-- What a job file holds: the text of a job's four tables (FORMAT, "Job file").
use Rattle.std.specs.Prelude.{ℕ, zero, suc, List, [], ◌∷◌, ◌++◌, length, take, drop}
use Rattle.tables.specs.Tables.{StringTable, Tables}
use Rattle.strings.specs.Strings.{text_of}
use Rattle.schema.specs.Rows.{rows_of}
use Rattle.instance.specs.Nodes.{nodes_of}
use Rattle.job.specs.Ascii.{ascii}
use Rattle.job.specs.Numbers.{decimal, words_text, hex_text}
use Rattle.job.specs.Lines.{text_of_lines}

-- so many strings, from string k on
unfoldable pub string_lines : StringTable → ℕ → ℕ → List (List ℕ)
string_lines T k zero = []
string_lines T k (suc n) = (ascii "s=" ++ hex_text (text_of T k)) ∷ string_lines T (suc k) n

-- so many rows of a table, each of so many words
unfoldable pub row_lines : List ℕ → ℕ → ℕ → List ℕ → List (List ℕ)
row_lines key width zero table = []
row_lines key width (suc n) table = (key ++ words_text (take width table)) ∷ row_lines key width n (drop width table)

abbrev pub job_lines : Tables → List (List ℕ)
job_lines J =
    ascii "rng=1"
    ∷ (ascii "strings=" ++ decimal (length J.strings.ends))
    ∷ string_lines J.strings 0 (length J.strings.ends)
    ++ (ascii "schema=" ++ decimal (rows_of J.schema))
    ∷ row_lines (ascii "row=") 3 (rows_of J.schema) J.schema
    ++ (ascii "instance=" ++ decimal (nodes_of J.instance))
    ∷ row_lines (ascii "node=") 5 (nodes_of J.instance) J.instance
    ++ ascii "end=1"
    ∷ []

abbrev pub job_text : Tables → List ℕ
job_text J = text_of_lines (job_lines J)
