-- The text of a loop nest: fields in six columns, lines, and the whole (Fields, Text, Form,
-- Examples); what calls answer (Answered); what the functions of the reader and the writer do on
-- the way (Reader, Stored).
pub mod Answered
pub mod Fields
pub mod Text
pub mod Reader
pub mod Stored
pub mod Form
pub mod Examples
