-- UTF-8 and TOML joined, and how few items the document's arrays have.
use Rattle.std.proofs.Common.{◌≡◌, ℕ, List, Option, None, IsUtf8, inl, inr, ◌+◌, ◌≤◌, length, arith}
use Rattle.std.specs.Str.{is_utf8}
use Rattle.std.proofs.lemmas.Str.{IsUtf8-from_is_utf8, is_utf8-from_IsUtf8}
use Rattle.std.proofs.lemmas.Bool.{cases_Bool}
use Rattle.toml.specs.Data.{Members}
use Rattle.toml.specs.Parse.{parse_document}
use Rattle.admin_rules.specs.Document.{document_of}
use Rattle.admin_rules.proofs.Lines.{parse_document-small}
use Rattle.admin_rules.proofs.document.read_document.Goals as goal

-- bytes that aren't UTF-8 are no document
document_of-no_text : (bytes : List ℕ) → ¬ (IsUtf8 bytes) → None ≡ document_of bytes
unfolding document_of
document_of-no_text bytes no_text =
    elim (cases_Bool (is_utf8 bytes)) [
      | inl text ↦ absurd (no_text (IsUtf8-from_is_utf8 bytes text))
      | inr other ↦ rw other
    ]

-- the document of a text
document_of-text : (bytes text : List ℕ) (root : Option Members) → IsUtf8 bytes → text ≡ bytes → parse_document text ≡ root → root ≡ document_of bytes
unfolding document_of
document_of-text bytes text root is_text same parsed = rw (is_utf8-from_IsUtf8 bytes is_text, ← same, parsed)

pub returns-in-Err-clause-document : goal.returns-in-Err-clause-document
returns-in-Err-clause-document c = document_of-no_text c.args.bytes.now c.in-Err.ensures.cases.0

pub returns-in-Ok-table_from_str-clause-document : goal.returns-in-Ok-table_from_str-clause-document
returns-in-Ok-table_from_str-clause-document c =
    document_of-text c.args.bytes.now c.in-Ok.text.now _ c.in-Ok.ensures.cases.1 c.in-Ok.ensures.cases.0 c.in-Ok-table_from_str.ensures.ok

pub returns-in-Ok-table_from_str-clause-small : goal.returns-in-Ok-table_from_str-clause-small
returns-in-Ok-table_from_str-clause-small c =
    let same : c.in-Ok.text.now ≡ c.args.bytes.now = c.in-Ok.ensures.cases.0 in
    let room : length c.in-Ok.text.now ≤ 65535 + 1 = rw same (omega arith) in
    rw c.in-Ok-table_from_str.ensures.ok at (parse_document-small 65535 c.in-Ok.text.now room)
