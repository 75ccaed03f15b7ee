pub mod Crc32
