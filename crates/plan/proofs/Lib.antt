-- What the program prints, and that the bytes it reads decide every input.
pub mod Input
pub mod Printed
pub mod Reading
