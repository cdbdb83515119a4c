-- The cases of FORMAT, "Cases", either side: the tables of each job, and what is said of it.
use Rattle.std.specs.Prelude.{ℕ, true, false, List, [], ◌∷◌}
use Rattle.schema.specs.Kinds.{no_row}
use Rattle.cases.specs.Meaning.{matches, least, refused, Row}

-- the words of schema rows (kind, a, b) and of instance rows (kind, parent, a, b, c), in order
abbrev pub schema_words : List (ℕ × ℕ × ℕ) → List ℕ
schema_words [] = []
schema_words (r ∷ l) = r.0 ∷ r.1 ∷ r.2 ∷ schema_words l

abbrev pub node_words : List (ℕ × ℕ × ℕ × ℕ × ℕ) → List ℕ
node_words [] = []
node_words (r ∷ l) = r.0 ∷ r.1 ∷ r.2 ∷ r.3 ∷ r.4 ∷ node_words l

-- the schema of P1 and P2
abbrev pub articles : List ℕ
articles = schema_words (
    (18, 0, 1) ∷ (18, 0, 2) ∷ (4, 1, no_row) ∷ (7, 1, 2) ∷ (8, 9, 0)
    ∷ (11, 3, 4) ∷ (20, 0, 5) ∷ (18, 0, 3) ∷ (3, 0, 0) ∷ (20, 7, 8)
    ∷ (18, 0, 3) ∷ (1, 0, 0) ∷ (20, 10, 11) ∷ (8, 6, 0) ∷ (21, 13, 0) ∷ [])

-- P1: the job tests/jobs/p1.job
abbrev pub p1 : Row
p1 = record {
  bytes = 0x61 ∷ 0x72 ∷ 0x74 ∷ 0x69 ∷ 0x64 ∷ 0x74 ∷ 0x69 ∷ 0x78 ∷ 0x31 ∷ 0x20 ∷ [];
  ends = 0 ∷ 3 ∷ 5 ∷ 7 ∷ 9 ∷ 10 ∷ [];
  schema = articles;
  instance =
      node_words ((1, no_row, 0, 1, 0) ∷ (2, 0, 0, 2, 4) ∷ (3, 0, 5, 0, 0) ∷ (1, 0, 0, 3, 0) ∷ (3, 3, 5, 0, 0) ∷ []);
  expected = matches ((0, 6) ∷ (3, 9) ∷ (3, 12) ∷ []) true;
}

-- P2: its instance row 4 holds `x1`
abbrev pub p2 : Row
p2 = record {
  bytes = 0x61 ∷ 0x72 ∷ 0x74 ∷ 0x69 ∷ 0x64 ∷ 0x74 ∷ 0x69 ∷ 0x78 ∷ 0x31 ∷ 0x20 ∷ [];
  ends = 0 ∷ 3 ∷ 5 ∷ 7 ∷ 9 ∷ 10 ∷ [];
  schema = articles;
  instance =
      node_words ((1, no_row, 0, 1, 0) ∷ (2, 0, 0, 2, 4) ∷ (3, 0, 5, 0, 0) ∷ (1, 0, 0, 3, 0) ∷ (3, 3, 4, 0, 0) ∷ []);
  expected = matches ((0, 6) ∷ (3, 9) ∷ []) true;
}

-- P3: an element x with an attribute id, whose pattern is the value `a b` of datatype t
abbrev pub attribute_value : ℕ → List ℕ
attribute_value t = schema_words (
    (18, 0, 1) ∷ (18, 0, 2) ∷ (5, t, 3) ∷ (7, 1, 2) ∷ (20, 0, 3)
    ∷ (8, 4, 0) ∷ (21, 5, 0) ∷ [])

-- the attribute is `  a   b `: token and string
abbrev pub p3_token : Row
p3_token = record {
  bytes = 0x78 ∷ 0x69 ∷ 0x64 ∷ 0x61 ∷ 0x20 ∷ 0x62 ∷ 0x20 ∷ 0x20 ∷ 0x61 ∷ 0x20 ∷ 0x20 ∷ 0x20 ∷ 0x62 ∷ 0x20 ∷ [];
  ends = 0 ∷ 1 ∷ 3 ∷ 6 ∷ 14 ∷ [];
  schema = attribute_value 1;
  instance = node_words ((1, no_row, 0, 1, 0) ∷ (2, 0, 0, 2, 4) ∷ []);
  expected = matches ((0, 4) ∷ []) true;
}

abbrev pub p3_string : Row
p3_string = record {
  bytes = 0x78 ∷ 0x69 ∷ 0x64 ∷ 0x61 ∷ 0x20 ∷ 0x62 ∷ 0x20 ∷ 0x20 ∷ 0x61 ∷ 0x20 ∷ 0x20 ∷ 0x20 ∷ 0x62 ∷ 0x20 ∷ [];
  ends = 0 ∷ 1 ∷ 3 ∷ 6 ∷ 14 ∷ [];
  schema = attribute_value 0;
  instance = node_words ((1, no_row, 0, 1, 0) ∷ (2, 0, 0, 2, 4) ∷ []);
  expected = matches [] false;
}

-- P4 and P5: an element e, whose pattern is the value string k of datatype t
abbrev pub content_value : ℕ → ℕ → List ℕ
content_value t k = schema_words ((18, 0, 1) ∷ (5, t, k) ∷ (20, 0, 1) ∷ (8, 2, 0) ∷ (21, 3, 0) ∷ [])

-- no children: the value is empty, and is `x`
abbrev pub p4_empty : Row
p4_empty = record {
  bytes = 0x65 ∷ 0x78 ∷ [];
  ends = 0 ∷ 1 ∷ 2 ∷ [];
  schema = content_value 0 0;
  instance = node_words ((1, no_row, 0, 1, 0) ∷ []);
  expected = matches ((0, 2) ∷ []) true;
}

abbrev pub p4_x : Row
p4_x = record {
  bytes = 0x65 ∷ 0x78 ∷ [];
  ends = 0 ∷ 1 ∷ 2 ∷ [];
  schema = content_value 0 2;
  instance = node_words ((1, no_row, 0, 1, 0) ∷ []);
  expected = matches [] false;
}

-- the content is one space: token and string, both empty
abbrev pub p5_token : Row
p5_token = record {
  bytes = 0x65 ∷ 0x20 ∷ [];
  ends = 0 ∷ 1 ∷ 2 ∷ [];
  schema = content_value 1 0;
  instance = node_words ((1, no_row, 0, 1, 0) ∷ (3, 0, 2, 0, 0) ∷ []);
  expected = matches ((0, 2) ∷ []) true;
}

abbrev pub p5_string : Row
p5_string = record {
  bytes = 0x65 ∷ 0x20 ∷ [];
  ends = 0 ∷ 1 ∷ 2 ∷ [];
  schema = content_value 0 0;
  instance = node_words ((1, no_row, 0, 1, 0) ∷ (3, 0, 2, 0, 0) ∷ []);
  expected = matches [] false;
}

-- P6: an element r, whose pattern is an interleave of refs to a and b
abbrev pub interleaved : List ℕ
interleaved = schema_words (
    (18, 0, 2) ∷ (1, 0, 0) ∷ (20, 0, 1) ∷ (18, 0, 3) ∷ (1, 0, 0)
    ∷ (20, 3, 4) ∷ (18, 0, 1) ∷ (8, 2, 0) ∷ (8, 5, 0) ∷ (12, 7, 8)
    ∷ (20, 6, 9) ∷ (8, 10, 0) ∷ (21, 11, 0) ∷ [])

-- the children are a b, b a, a a b
abbrev pub p6_ab : Row
p6_ab = record {
  bytes = 0x72 ∷ 0x61 ∷ 0x62 ∷ [];
  ends = 0 ∷ 1 ∷ 2 ∷ 3 ∷ [];
  schema = interleaved;
  instance = node_words ((1, no_row, 0, 1, 0) ∷ (1, 0, 0, 2, 0) ∷ (1, 0, 0, 3, 0) ∷ []);
  expected = matches ((0, 10) ∷ (1, 2) ∷ (2, 5) ∷ []) true;
}

abbrev pub p6_ba : Row
p6_ba = record {
  bytes = 0x72 ∷ 0x61 ∷ 0x62 ∷ [];
  ends = 0 ∷ 1 ∷ 2 ∷ 3 ∷ [];
  schema = interleaved;
  instance = node_words ((1, no_row, 0, 1, 0) ∷ (1, 0, 0, 3, 0) ∷ (1, 0, 0, 2, 0) ∷ []);
  expected = matches ((0, 10) ∷ (1, 5) ∷ (2, 2) ∷ []) true;
}

abbrev pub p6_aab : Row
p6_aab = record {
  bytes = 0x72 ∷ 0x61 ∷ 0x62 ∷ [];
  ends = 0 ∷ 1 ∷ 2 ∷ 3 ∷ [];
  schema = interleaved;
  instance = node_words ((1, no_row, 0, 1, 0) ∷ (1, 0, 0, 2, 0) ∷ (1, 0, 0, 2, 0) ∷ (1, 0, 0, 3, 0) ∷ []);
  expected = matches ((1, 2) ∷ (2, 2) ∷ (3, 5) ∷ []) false;
}

-- P7: an element x, whose pattern is oneOrMore of attribute anyName text
abbrev pub repeated_attribute : List ℕ
repeated_attribute = schema_words (
    (16, no_row, 0) ∷ (3, 0, 0) ∷ (7, 0, 1) ∷ (9, 2, 0) ∷ (18, 0, 1)
    ∷ (20, 4, 3) ∷ (8, 5, 0) ∷ (21, 6, 0) ∷ [])

-- no attribute, one, two
abbrev pub p7_none : Row
p7_none = record {
  bytes = 0x78 ∷ 0x6B ∷ 0x6C ∷ [];
  ends = 0 ∷ 1 ∷ 2 ∷ 3 ∷ [];
  schema = repeated_attribute;
  instance = node_words ((1, no_row, 0, 1, 0) ∷ []);
  expected = matches [] false;
}

abbrev pub p7_one : Row
p7_one = record {
  bytes = 0x78 ∷ 0x6B ∷ 0x6C ∷ [];
  ends = 0 ∷ 1 ∷ 2 ∷ 3 ∷ [];
  schema = repeated_attribute;
  instance = node_words ((1, no_row, 0, 1, 0) ∷ (2, 0, 0, 2, 0) ∷ []);
  expected = matches ((0, 5) ∷ []) true;
}

abbrev pub p7_two : Row
p7_two = record {
  bytes = 0x78 ∷ 0x6B ∷ 0x6C ∷ [];
  ends = 0 ∷ 1 ∷ 2 ∷ 3 ∷ [];
  schema = repeated_attribute;
  instance = node_words ((1, no_row, 0, 1, 0) ∷ (2, 0, 0, 2, 0) ∷ (2, 0, 0, 3, 0) ∷ []);
  expected = matches ((0, 5) ∷ []) true;
}

-- P8: an element x, whose pattern is data token except token value `no`
abbrev pub data_except : List ℕ
data_except = schema_words (
    (5, 1, 2) ∷ (4, 1, 0) ∷ (18, 0, 1) ∷ (20, 2, 1) ∷ (8, 3, 0)
    ∷ (21, 4, 0) ∷ [])

-- the content is ` no `, and is `yes`
abbrev pub p8_no : Row
p8_no = record {
  bytes = 0x78 ∷ 0x6E ∷ 0x6F ∷ 0x20 ∷ 0x6E ∷ 0x6F ∷ 0x20 ∷ 0x79 ∷ 0x65 ∷ 0x73 ∷ [];
  ends = 0 ∷ 1 ∷ 3 ∷ 7 ∷ 10 ∷ [];
  schema = data_except;
  instance = node_words ((1, no_row, 0, 1, 0) ∷ (3, 0, 3, 0, 0) ∷ []);
  expected = matches [] false;
}

abbrev pub p8_yes : Row
p8_yes = record {
  bytes = 0x78 ∷ 0x6E ∷ 0x6F ∷ 0x20 ∷ 0x6E ∷ 0x6F ∷ 0x20 ∷ 0x79 ∷ 0x65 ∷ 0x73 ∷ [];
  ends = 0 ∷ 1 ∷ 3 ∷ 7 ∷ 10 ∷ [];
  schema = data_except;
  instance = node_words ((1, no_row, 0, 1, 0) ∷ (3, 0, 4, 0, 0) ∷ []);
  expected = matches ((0, 3) ∷ []) true;
}

-- P9: name classes at row 1, anyName except name 0,1; at row 4, nsName 0; at rows 7 and 10, anyName
abbrev pub classes : List ℕ
classes = schema_words (
    (18, 0, 1) ∷ (16, 0, 0) ∷ (1, 0, 0) ∷ (20, 1, 2) ∷ (17, 0, no_row)
    ∷ (1, 0, 0) ∷ (20, 4, 5) ∷ (16, no_row, 0) ∷ (1, 0, 0) ∷ (20, 7, 8)
    ∷ (16, no_row, 0) ∷ (1, 0, 0) ∷ (20, 10, 11) ∷ (2, 0, 0) ∷ (21, 13, 0) ∷ [])

abbrev pub p9_except : Row
p9_except = record {
  bytes = 0x78 ∷ [];
  ends = 0 ∷ 1 ∷ [];
  schema = classes;
  instance = [];
  expected = least 1 4 0 2;
}

abbrev pub p9_any : Row
p9_any = record {
  bytes = 0x78 ∷ [];
  ends = 0 ∷ 1 ∷ [];
  schema = classes;
  instance = [];
  expected = least 7 10 0 1;
}

-- P10: a group of two attributes 0,2
abbrev pub two_attributes : List ℕ
two_attributes = schema_words (
    (18, 0, 2) ∷ (3, 0, 0) ∷ (7, 0, 1) ∷ (18, 0, 2) ∷ (3, 0, 0)
    ∷ (7, 3, 4) ∷ (11, 2, 5) ∷ (18, 0, 1) ∷ (20, 7, 6) ∷ (8, 8, 0)
    ∷ (21, 9, 0) ∷ [])

abbrev pub p10 : Row
p10 = record {
  bytes = 0x78 ∷ 0x79 ∷ [];
  ends = 0 ∷ 1 ∷ 2 ∷ [];
  schema = two_attributes;
  instance = [];
  expected = refused 7 6;
}

-- P11: text on both sides of an interleave
abbrev pub two_texts : List ℕ
two_texts = schema_words (
    (3, 0, 0) ∷ (3, 0, 0) ∷ (12, 0, 1) ∷ (18, 0, 1) ∷ (20, 3, 2)
    ∷ (8, 4, 0) ∷ (21, 5, 0) ∷ [])

abbrev pub p11 : Row
p11 = record {
  bytes = 0x78 ∷ [];
  ends = 0 ∷ 1 ∷ [];
  schema = two_texts;
  instance = [];
  expected = refused 8 2;
}

-- P12: a group of data and ref
abbrev pub data_and_ref : List ℕ
data_and_ref = schema_words (
    (4, 1, no_row) ∷ (8, 4, 0) ∷ (11, 0, 1) ∷ (18, 0, 1) ∷ (20, 3, 2)
    ∷ (8, 4, 0) ∷ (21, 5, 0) ∷ [])

abbrev pub p12 : Row
p12 = record {
  bytes = 0x78 ∷ [];
  ends = 0 ∷ 1 ∷ [];
  schema = data_and_ref;
  instance = [];
  expected = refused 6 2;
}

-- P13: an element e, whose pattern is empty
abbrev pub empty_content : List ℕ
empty_content = schema_words ((18, 0, 1) ∷ (1, 0, 0) ∷ (20, 0, 1) ∷ (8, 2, 0) ∷ (21, 3, 0) ∷ [])

-- the content is one #xD, and is one #xC
abbrev pub p13_return : Row
p13_return = record {
  bytes = 0x65 ∷ 0xD ∷ [];
  ends = 0 ∷ 1 ∷ 2 ∷ [];
  schema = empty_content;
  instance = node_words ((1, no_row, 0, 1, 0) ∷ (3, 0, 2, 0, 0) ∷ []);
  expected = matches ((0, 2) ∷ []) true;
}

abbrev pub p13_feed : Row
p13_feed = record {
  bytes = 0x65 ∷ 0xC ∷ [];
  ends = 0 ∷ 1 ∷ 2 ∷ [];
  schema = empty_content;
  instance = node_words ((1, no_row, 0, 1, 0) ∷ (3, 0, 2, 0, 0) ∷ []);
  expected = matches [] false;
}

abbrev pub table : List Row
table =
    p1 ∷ p2 ∷ p3_token ∷ p3_string ∷ p4_empty ∷ p4_x ∷ p5_token ∷ p5_string ∷ p6_ab ∷ p6_ba ∷ p6_aab ∷ p7_none ∷ p7_one
    ∷ p7_two ∷ p8_no ∷ p8_yes ∷ p9_except ∷ p9_any ∷ p10 ∷ p11 ∷ p12 ∷ p13_return ∷ p13_feed ∷ []
